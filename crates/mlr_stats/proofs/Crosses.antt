-- What is kept of values may be moved to another thread.
use denote.Param.Send.{IsSend, sendable}
use Rattle.std.proofs.Crossing.{crosses}
use Rattle.mlr_value.proofs.bytes.Bytes.TheSendSync as bytes
use Rattle.mlr_value.proofs.Crosses.{crosses_value}
use Rattle.mlr_groups.proofs.Crosses.{crosses_groups}
use Rattle.mlr_list.proofs.List.TheSendSync as list
use Rattle.mlr_stats.specs.contracts.more.More
use Rattle.mlr_stats.specs.contracts.statistics.Statistics
use Rattle.mlr_stats.specs.contracts.summary.Summary
use Rattle.mlr_stats.specs.contracts.text_counts.TextCounts

pub Statistics-send : IsSend Statistics.the_field.row
Statistics-send = search (list.the_send, crosses, sendable) depth 60 fits 20000

TextCounts-send : IsSend TextCounts.the_field.row
TextCounts-send = search (bytes.the_send, crosses_value, crosses_groups, crosses, sendable) depth 60 fits 20000

More-send : IsSend More.the_row
More-send = search (TextCounts-send, crosses_value, crosses, sendable) depth 60 fits 20000

pub Summary-send : IsSend Summary.the_row
Summary-send = search (More-send, crosses_value, crosses, sendable) depth 60 fits 20000

pub ruleset crosses_stats = (Statistics-send, Summary-send)
