use Rattle.std.proofs.Common.{rules, ap, sym, subst}
use Rattle.verb_specs.specs.declared.verb_spec.VerbSpec.TheVariants.{Stream}
use Rattle.cli_verbs.specs.Verbs.{IsVerbNamed}
use Rattle.cli_verbs.proofs.verb.verb_of.Goals as goal
use Rattle.cli_verbs.proofs.verb.verb_of.Goals.{in-Altkv, in-Cat+in_ok-cat-in-Cat, in-Cut+in_ok-cut-in-Cut, in-Decimate+in_ok-decimate-in-Decimate, in-FillDown+in_ok-fill_down-in-FillDown, in-FillEmpty+in_ok-fill_empty-in-FillEmpty, in-Flatten+in_ok-flatten-in-Flatten, in-Gap+in_ok-gap-in-Gap, in-Grep+in_ok-grep-in-Grep, in-Gsub+in_ok-gsub-in-Gsub, in-HavingFields+in_ok-having_fields-in-HavingFields, in-Head+in_ok-head-in-Head, in-JsonParse+in_ok-json_parse-in-JsonParse, in-JsonStringify+in_ok-json_stringify-in-JsonStringify, in-Label+in_ok-label-in-Label, in-Nothing, in-Regularize, in-Rename+in_ok-rename-in-Rename, in-Reorder+in_ok-reorder-in-Reorder, in-Repeat+in_ok-repeat-in-Repeat, in-Sec2Gmt+in_ok-sec2gmt-in-Sec2Gmt, in-Sec2GmtDate+in_ok-sec2gmtdate-in-Sec2GmtDate, in-SortWithinRecords, in-Sparsify+in_ok-sparsify-in-Sparsify, in-Ssub+in_ok-ssub-in-Ssub, in-Sub+in_ok-sub-in-Sub, in-Template+in_ok-template-in-Template, in-Unflatten+in_ok-unflatten-in-Unflatten, in-Unspace+in_ok-unspace-in-Unspace}

pub returns-clause-means : goal.returns-clause-means
returns-clause-means c = elim c.match-given.branch [
  | in-Altkv w ↦ search rules
  | in-Cat+in_ok-cat-in-Cat w ↦ search rules
  | in-Cut+in_ok-cut-in-Cut w ↦
      subst (λ name. IsVerbNamed name c.args.flatsep.now c.args.read.now c.args.given.now (Stream c.match-given.spec)) (sym w.in-Cut.is)
      (w.in_ok-cut-in-Cut.field-0, ap Stream w.spec-is, w.in_ok-cut-in-Cut.ensures.means)
  | in-Decimate+in_ok-decimate-in-Decimate w ↦ search rules
  | in-FillDown+in_ok-fill_down-in-FillDown w ↦ search rules
  | in-FillEmpty+in_ok-fill_empty-in-FillEmpty w ↦ search rules
  | in-Flatten+in_ok-flatten-in-Flatten w ↦ search rules
  | in-Gap+in_ok-gap-in-Gap w ↦ search rules
  | in-Grep+in_ok-grep-in-Grep w ↦
      subst (λ name. IsVerbNamed name c.args.flatsep.now c.args.read.now c.args.given.now (Stream c.match-given.spec)) (sym w.in-Grep.is)
      (w.in_ok-grep-in-Grep.field-0, ap Stream w.spec-is, w.in_ok-grep-in-Grep.ensures.means)
  | in-Gsub+in_ok-gsub-in-Gsub w ↦
      subst (λ name. IsVerbNamed name c.args.flatsep.now c.args.read.now c.args.given.now (Stream c.match-given.spec)) (sym w.in-Gsub.is)
      (w.in_ok-gsub-in-Gsub.field-0, ap Stream w.spec-is, w.in_ok-gsub-in-Gsub.ensures.means)
  | in-HavingFields+in_ok-having_fields-in-HavingFields w ↦
      subst (λ name. IsVerbNamed name c.args.flatsep.now c.args.read.now c.args.given.now (Stream c.match-given.spec)) (sym w.in-HavingFields.is)
      (w.in_ok-having_fields-in-HavingFields.field-0, ap Stream w.spec-is, w.in_ok-having_fields-in-HavingFields.ensures.means)
  | in-Head+in_ok-head-in-Head w ↦ search rules
  | in-JsonParse+in_ok-json_parse-in-JsonParse w ↦ search rules
  | in-JsonStringify+in_ok-json_stringify-in-JsonStringify w ↦ search rules
  | in-Label+in_ok-label-in-Label w ↦ search rules
  | in-Nothing w ↦ search rules
  | in-Regularize w ↦ search rules
  | in-Rename+in_ok-rename-in-Rename w ↦
      subst (λ name. IsVerbNamed name c.args.flatsep.now c.args.read.now c.args.given.now (Stream c.match-given.spec)) (sym w.in-Rename.is)
      (w.in_ok-rename-in-Rename.field-0, ap Stream w.spec-is, w.in_ok-rename-in-Rename.ensures.means)
  | in-Reorder+in_ok-reorder-in-Reorder w ↦ search rules
  | in-Repeat+in_ok-repeat-in-Repeat w ↦ search rules
  | in-Sec2Gmt+in_ok-sec2gmt-in-Sec2Gmt w ↦ search rules
  | in-Sec2GmtDate+in_ok-sec2gmtdate-in-Sec2GmtDate w ↦ search rules
  | in-SortWithinRecords w ↦ search rules
  | in-Sparsify+in_ok-sparsify-in-Sparsify w ↦ search rules
  | in-Ssub+in_ok-ssub-in-Ssub w ↦ search rules
  | in-Sub+in_ok-sub-in-Sub w ↦
      subst (λ name. IsVerbNamed name c.args.flatsep.now c.args.read.now c.args.given.now (Stream c.match-given.spec)) (sym w.in-Sub.is)
      (w.in_ok-sub-in-Sub.field-0, ap Stream w.spec-is, w.in_ok-sub-in-Sub.ensures.means)
  | in-Template+in_ok-template-in-Template w ↦ search rules
  | in-Unflatten+in_ok-unflatten-in-Unflatten w ↦ search rules
  | in-Unspace+in_ok-unspace-in-Unspace w ↦ search rules
]
