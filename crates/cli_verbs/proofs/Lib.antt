mod Clashing
mod Compiling
mod Passing
mod Refusing
mod Ruling
