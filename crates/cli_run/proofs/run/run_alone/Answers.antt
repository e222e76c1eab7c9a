use Rattle.std.proofs.Common.{subst}
use Rattle.mlr_event.specs.declared.names.Target.TheVariants.{Stderr}
use Rattle.mlr_world.specs.Outputs.{ChangesAt}
use Rattle.cli_run.specs.Meaning.{inputs_named, verbs_named}
use Rattle.cli_run.specs.Message.{Appends, message_of}
use Rattle.cli_run.proofs.Answering.{whole-following}
use Rattle.cli_run.proofs.Top.{cause_given, counts_between, leaves_all}
use Rattle.cli_run.proofs.run.run_alone.Goals as goal

pub returns-clause-run : goal.returns-clause-run
returns-clause-run g c =
    let words = c.args.words.now in
    let f0 = g.O.Outputs.faults c.args.outputs.now in
    let f1 = g.O.Outputs.faults c.run_planned-ended.new.outputs in
    let f2 = g.O.Outputs.faults c.write_message.new.outputs in
    let s0 = g.O.Outputs.shortages c.args.outputs.now in
    let s1 = g.O.Outputs.shortages c.run_planned-ended.new.outputs in
    let s2 = g.O.Outputs.shortages c.write_message.new.outputs in
    let ran = c.run_planned-ended.ensures.run in
    let ended = c.run_planned-ended.result in
    let come = c.plan-planned.result in
    let h0 = g.O.Outputs.held c.args.outputs.now in
    let h1 = g.O.Outputs.held c.run_planned-ended.new.outputs in
    let h2 = g.O.Outputs.held c.write_message.new.outputs in
    let message = subst (λ s. ChangesAt Stderr (Appends (message_of words (inputs_named come) (verbs_named come) s ended) c.write_message.result) h1 h2) c.styles_named-styles.ensures
    (subst (λ v. ChangesAt Stderr (Appends (message_of words (inputs_named come) v c.styles_named-styles.result.now ended) c.write_message.result) h1 h2) c.verbs_named-verbs.ensures
    (subst (λ n. ChangesAt Stderr (Appends (message_of words n c.verbs_named-verbs.result.now c.styles_named-styles.result.now ended) c.write_message.result) h1 h2) c.inputs_named-names.ensures c.write_message.ensures.bytes)) in
    record {
      planned = come;
      plans = c.plan-planned.ensures.plans;
      answers = ran.answers;
      meant = ran.meant;
      runs = ran.runs;
      given = ran.given;
      takes = ran.takes;
      between = counts_between ended c.write_message.result f0 f1 f2 s0 s1 s2 c.run_planned-ended.ensures.output_counts c.run_planned-ended.ensures.shortages c.write_message.ensures.counts c.write_message.ensures.memory c.write_message.ensures.none;
      leaves = leaves_all words come ran.meant ended ran.given c.write_message.result h0 h1 h2 f1 f2 s1 s2 c.write_message.ensures.counts c.write_message.ensures.memory ran.each message;
      whole = whole-following ended ran.meant _ c.write_message.result h0 h1 h2 (g.I.Inputs.contents c.args.inputs) (g.I.Inputs.taken c.args.inputs) message ran.whole;
      completes = ran.completes;
    }

pub returns-clause-output_cause : goal.returns-clause-output_cause
returns-clause-output_cause g c =
    let ran = c.run_planned-ended.ensures.run in
    cause_given c.plan-planned.result c.run_planned-ended.result ran.meant ran.given c.write_message.result (g.O.Outputs.faults c.args.outputs.now) (g.O.Outputs.faults c.run_planned-ended.new.outputs) (g.O.Outputs.faults c.write_message.new.outputs)
    ran.answers ran.runs ran.takes.says c.write_message.ensures.none c.run_planned-ended.ensures.output_counts c.write_message.ensures.counts
