use Rattle.std.proofs.Common.{refl, ◌∙◌, subst, sym}
use Rattle.read_files.specs.Takes.{After}
use Rattle.left_files.proofs.Counting.{cause-from}
use Rattle.left_files.proofs.Stopping.{stopped-early}
use Rattle.left_files.proofs.reader.LeftReader.read_all.Goals as goal

pub turn-requires : goal.turn-requires
turn-requires g c =
    let now = c.loop-over.invariant.2 c.requires.0 c.requires.1 in
    (c.requires.0, g.I.Inputs.taken c.args.inputs.now, now.0, now.1, now.2)

pub loop-over-preserved : goal.loop-over-preserved
loop-over-preserved g c = (
  c.in-Went.ensures.contents ∙ c.loop-over.invariant.0,
  λ name. c.in-Went.ensures.cause name ∙ c.loop-over.invariant.1 name,
  λ files begins.
      let now = c.loop-over.invariant.2 files begins in
      let turned = c.in-Went.ensures.turned files (g.I.Inputs.taken c.args.inputs.now) now.0 now.1 now.2 in (
        turned.given',
        turned.represents refl,
        subst (λ told. After (g.I.Inputs.taken c.args.inputs.now) turned.given' told (g.I.Inputs.taken c.turn.new.inputs) (g.I.Inputs.open_entry c.turn.new.inputs)) (sym c.in-Went.ensures.contents) turned.following,
      ),
)

pub returns-in_default : goal.returns-in_default
returns-in_default g c = record {
  read = λ files begins.
      let now = c.loop-over.invariant.2 files begins in
      let turned = c.turn.ensures.turned files (g.I.Inputs.taken c.args.inputs.now) now.0 now.1 now.2 in
      record {
        given = turned.given';
        order = turned.order;
        following = subst (λ told. After (g.I.Inputs.taken c.args.inputs.now) turned.given' told (g.I.Inputs.taken c.turn.new.inputs) (g.I.Inputs.open_entry c.turn.new.inputs)) c.loop-over.invariant.0 turned.following;
        few = turned.few;
        says = turned.says;
        over = c.in_default.not-Went;
        early = stopped-early c.left_laws.ensures.fixed c.source_laws.ensures.early files now.0 turned.given' now.1 (g.I.Inputs.contents c.args.inputs.now) (g.I.Inputs.taken c.args.inputs.now) (g.I.Inputs.taken c.loop-over.inputs) (g.I.Inputs.open_entry c.loop-over.inputs)
            (subst (λ told. After (g.I.Inputs.taken c.args.inputs.now) now.0 told (g.I.Inputs.taken c.loop-over.inputs) (g.I.Inputs.open_entry c.loop-over.inputs)) c.loop-over.invariant.0 now.2) turned.one_read;
      };
  contents = c.turn.ensures.contents ∙ c.loop-over.invariant.0;
  cause = cause-from c.turn.result (g.I.Inputs.faults c.args.inputs.now) (g.I.Inputs.faults c.loop-over.inputs) (g.I.Inputs.faults c.turn.new.inputs) c.loop-over.invariant.1 c.turn.ensures.cause;
}
