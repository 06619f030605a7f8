use Rattle.std.proofs.Common.{[], ◌∷◌, ◌++◌, cond, map, take, refl, sym, ap, subst, ◌∙◌, append-nil, take_all, vec_items, Vec, Global}
use Rattle.std.specs.List.{filter, AllZip}
use Rattle.std.proofs.lemmas.Slice.{pushed}
use Rattle.rulefile.specs.declared.weak_constraints.Single.{Single}
use Rattle.rulefile.specs.Model.{wish_of}
use Rattle.rulefile.specs.WeakConstraints.{IsSingle, alone, is_untagged}
use Rattle.rulefile.proofs.Weak.{zip_push, passed_more, untagged_is}
use Rattle.rulefile.proofs.groups.untagged.Goals as goal
use Rattle.rulefile.proofs.groups.untagged.Goals.{then-is_none+in_ok-push, else-is_none}

pub loop-wish-preserved : goal.loop-wish-preserved
loop-wish-preserved c =
    let w = c.wish-item.result in
    let i = c.loop-wish.wish-index in
    let before = map alone (filter is_untagged (map wish_of (take i c.args.wishes.now))) in
    let more = passed_more alone is_untagged c.args.wishes.now i w c.loop-wish-test.true c.wish-item.is
    ∙ ap (λ t. before ++ cond t (alone (wish_of w) ∷ []) []) (untagged_is w.tag c.is_none.result c.is_none.ensures) in
    elim c.if-is_none.branch [
      | then-is_none+in_ok-push b ↦
          let items = pushed {was = vec_items c.loop-wish.all} (b.of.result ∷ []) refl b.in_ok-push.was b.push.ensures.items in
          subst (AllZip IsSingle (vec_items c.if-is_none.all)) (sym (more ∙ ap (λ t. before ++ cond t (alone (wish_of w) ∷ []) []) b.if-is_none.true))
          (subst (λ all. AllZip IsSingle all (before ++ alone (wish_of w) ∷ [])) (sym (ap vec_items b.all-is ∙ items))
          (zip_push IsSingle (vec_items c.loop-wish.all) before b.of.result (alone (wish_of w)) c.loop-wish.invariant b.of.ensures))
      | else-is_none b ↦
          subst (AllZip IsSingle (vec_items c.if-is_none.all)) (sym (more ∙ ap (λ t. before ++ cond t (alone (wish_of w) ∷ []) []) b.if-is_none.false ∙ append-nil before))
          (subst (λ (v : Vec Single Global). AllZip IsSingle (vec_items v) before) (sym b.all-is) c.loop-wish.invariant)
    ]

pub returns : goal.returns
returns c =
    subst (λ ws. AllZip IsSingle (vec_items c.loop-wish.all) (map alone (filter is_untagged (map wish_of ws)))) (take_all c.loop-wish.wish-index c.args.wishes.now c.loop-wish-test.false) c.loop-wish.invariant
