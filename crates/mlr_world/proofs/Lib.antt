pub mod Changes
mod MemoryTexts
mod MemoryInputs
mod MemoryOutputs
mod SureContents
