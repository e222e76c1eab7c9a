-- A pattern may be moved to another thread, and may be shared by threads.
use denote.Param.Send.{IsSend, IsSync, sendable}
use Rattle.std.proofs.Crossing.{crosses}
use Rattle.regex_hir.specs.contracts.hir.Hir
use Rattle.regex_hir.proofs.hir.Hir.TheLaws.TheKnot as hir_knot
use Rattle.regex_meta.specs.contracts.plan.Plans
use Rattle.regex_meta.specs.contracts.signs.Signs
use Rattle.regex_meta.specs.contracts.program.Program
use Rattle.regex_literal.proofs.caseless.Caseless.TheSendSync as caseless
use Rattle.regex_literal.proofs.byte_set.ByteSet.TheSendSync as byte_set
use Rattle.regex_dfa.proofs.dfa.Dfa.TheSendSync as dfa
use Rattle.regex.specs.contracts.pattern.Pattern
use Rattle.regex.specs.contracts.bytes.regex.Regex

-- moved to another thread, layer by layer
Hir-send : IsSend Hir.the_row
Hir-send = search (crosses, hir_knot.crosses, sendable) depth 60 fits 20000

Hir-field-send : IsSend Hir.the_field.row
Hir-field-send = search (crosses, hir_knot.crosses, sendable) depth 60 fits 20000

Plans-send : IsSend Plans.the_field.row
Plans-send = search (Hir-send, crosses, sendable) depth 60 fits 20000

Signs-send : IsSend Signs.the_row
Signs-send = search (Hir-send, caseless.the_send, crosses, sendable) depth 60 fits 20000

Program-send : IsSend Program.the_field.row
Program-send = search (Hir-field-send, Plans-send, Signs-send, dfa.the_field_send, byte_set.the_send, crosses, sendable) depth 60 fits 20000

Parts-send : IsSend Pattern.the_field.row
Parts-send = search (Program-send, crosses, sendable) depth 60 fits 20000

pub Regex-field-send : IsSend Regex.the_field.row
Regex-field-send = search (Parts-send, crosses, sendable) depth 60 fits 20000

pub Regex-send : IsSend Regex.the_row
Regex-send = search (Regex-field-send, crosses, sendable) depth 60 fits 20000

-- shared by threads
Hir-sync : IsSync Hir.the_row
Hir-sync = search (crosses, hir_knot.crosses_both, sendable) depth 60 fits 20000

Hir-field-sync : IsSync Hir.the_field.row
Hir-field-sync = search (crosses, hir_knot.crosses_both, sendable) depth 60 fits 20000

Plans-sync : IsSync Plans.the_field.row
Plans-sync = search (Hir-sync, crosses, sendable) depth 60 fits 20000

Signs-sync : IsSync Signs.the_row
Signs-sync = search (Hir-sync, caseless.the_sync, crosses, sendable) depth 60 fits 20000

Program-sync : IsSync Program.the_field.row
Program-sync = search (Hir-field-sync, Plans-sync, Signs-sync, dfa.the_field_sync, byte_set.the_sync, crosses, sendable) depth 60 fits 20000

Parts-sync : IsSync Pattern.the_field.row
Parts-sync = search (Program-sync, crosses, sendable) depth 60 fits 20000

pub Regex-field-sync : IsSync Regex.the_field.row
Regex-field-sync = search (Parts-sync, crosses, sendable) depth 60 fits 20000

pub Regex-sync : IsSync Regex.the_row
Regex-sync = search (Regex-field-sync, crosses, sendable) depth 60 fits 20000

pub ruleset crosses_regex = (Regex-field-send, Regex-field-sync, Regex-send, Regex-sync)
