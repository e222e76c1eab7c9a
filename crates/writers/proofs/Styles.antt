-- Options that are one style.
use Rattle.std.proofs.Common.{◌≡◌, ℕ, Bool, true, false, ◌&&◌, ◌||◌, List, [], ap, ap₂, sym, ◌∙◌}
use Rattle.std.specs.Prelude.{◌↔◌, IsTrue}
use Rattle.std.proofs.lemmas.Bool.{and_from, and_parts}
use Rattle.mlr_event.specs.declared.options.Format.{Format}
use Rattle.writers.specs.declared.options.WriteOpts.{WriteOpts}
use Rattle.writers.specs.Style.{IsSameStyle, heeded, if_used, unflattens, uses_bars, uses_header, uses_lists, uses_ofs, uses_ops, uses_quotes}

-- equal in each part that is looked at
pub record Parts (a b : WriteOpts) : Type 0 where
  pub fmt : a.format ≡ b.format
  pub ofs : if_used (uses_ofs a.format) [] a.ofs ≡ if_used (uses_ofs a.format) [] b.ofs
  pub ops : if_used (uses_ops a.format) [] a.ops ≡ if_used (uses_ops a.format) [] b.ops
  pub headerless : if_used (uses_header a.format) false a.headerless ≡ if_used (uses_header a.format) false b.headerless
  pub quote_all : if_used (uses_quotes a.format) false a.quote_all ≡ if_used (uses_quotes a.format) false b.quote_all
  pub barred : if_used (uses_bars a.format) false a.barred ≡ if_used (uses_bars a.format) false b.barred
  pub stacked : if_used (uses_lists a.format) false a.stacked ≡ if_used (uses_lists a.format) false b.stacked
  pub listwrap : if_used (uses_lists a.format) false a.listwrap ≡ if_used (uses_lists a.format) false b.listwrap
  pub flatten : a.flatten ≡ b.flatten
  pub unflatten : unflattens a ≡ unflattens b
  pub flatsep : if_used (a.flatten || unflattens a) [] a.flatsep ≡ if_used (a.flatten || unflattens a) [] b.flatsep

pub style-of-parts : (a b : WriteOpts) → Parts a b → IsSameStyle a b
style-of-parts a b p =
    (λ i. record {
      format = a.format;
      ofs = p.ofs i;
      ops = p.ops i;
      headerless = p.headerless i;
      quote_all = p.quote_all i;
      barred = p.barred i;
      stacked = p.stacked i;
      listwrap = p.listwrap i;
      flatten = p.flatten i;
      unflatten = p.unflatten i;
      flatsep = (p.flatsep ∙ ap₂ (λ flat nested. if_used (flat || nested) [] b.flatsep) p.flatten p.unflatten) i;
    })
    ∙ ap (λ fmt. heeded fmt b) p.fmt

pub parts-of-style : (a b : WriteOpts) → IsSameStyle a b → Parts a b
parts-of-style a b p =
    let fmt : a.format ≡ b.format = ap (λ (o : WriteOpts). o.format) p in
    let flatten : a.flatten ≡ b.flatten = ap (λ (o : WriteOpts). o.flatten) p in
    let unflatten : unflattens a ≡ unflattens b = ap (λ (o : WriteOpts). o.unflatten) p in
    record {
      fmt = fmt;
      ofs = ap (λ (o : WriteOpts). o.ofs) p ∙ sym (ap (λ f. if_used (uses_ofs f) [] b.ofs) fmt);
      ops = ap (λ (o : WriteOpts). o.ops) p ∙ sym (ap (λ f. if_used (uses_ops f) [] b.ops) fmt);
      headerless = ap (λ (o : WriteOpts). o.headerless) p ∙ sym (ap (λ f. if_used (uses_header f) false b.headerless) fmt);
      quote_all = ap (λ (o : WriteOpts). o.quote_all) p ∙ sym (ap (λ f. if_used (uses_quotes f) false b.quote_all) fmt);
      barred = ap (λ (o : WriteOpts). o.barred) p ∙ sym (ap (λ f. if_used (uses_bars f) false b.barred) fmt);
      stacked = ap (λ (o : WriteOpts). o.stacked) p ∙ sym (ap (λ f. if_used (uses_lists f) false b.stacked) fmt);
      listwrap = ap (λ (o : WriteOpts). o.listwrap) p ∙ sym (ap (λ f. if_used (uses_lists f) false b.listwrap) fmt);
      flatten = flatten;
      unflatten = unflatten;
      flatsep = ap (λ (o : WriteOpts). o.flatsep) p ∙ sym (ap₂ (λ flat nested. if_used (flat || nested) [] b.flatsep) flatten unflatten);
    }

-- two tests in a row
pub both : {P Q : Type 0} (x y : Bool) → (IsTrue x ↔ P) → (IsTrue y ↔ Q) → IsTrue (x && y) ↔ (P × Q)
both x y p q = (
  λ t. let parts = and_parts x y t in (p.0 parts.0, q.0 parts.1),
  λ t. and_from x y (p.1 t.0) (q.1 t.1),
)
