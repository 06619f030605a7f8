use Rattle.std.proofs.Common.{◌≡◌, map, sym, ap, ◌∙◌, rules}
use Rattle.std.proofs.lemmas.Bool.{cond-true}
use Rattle.std.specs.List.{list_all}
use Rattle.rulefile.specs.Model.{constraint_of}
use Rattle.judges.specs.Rounds.{supported, with_heads}
use Rattle.judges.proofs.closures.Reduct.fire.Goals as goal

pub returns-then-has_support : goal.returns-then-has_support
returns-then-has_support c =
    let e : c.fold.result ≡ with_heads c.args.self.now.sheet c.deref-then-has_support.result.now c.args.reached = search rules in
    e
    ∙ ap (λ es. with_heads c.args.self.now.sheet es c.args.reached) c.deref-then-has_support.ensures.value
    ∙ sym (cond-true _ _ _ (sym (c.if-has_support.ensures ∙ ap (λ ks. list_all (supported c.args.self.now.sheet c.args.reached) (map constraint_of ks)) c.deref.ensures.value)))
