use Rattle.std.proofs.Common.{[], ◌∷◌, ◌++◌, cond, map, take, refl, sym, ap, subst, ◌∙◌, append-nil, take_all, vec_items, w16, SFits, rules, Vec, Global}
use Rattle.sheets.specs.declared.literal_sets.LiteralSet.{LiteralSet}
use Rattle.std.specs.List.{filter, AllZip}
use Rattle.std.proofs.lemmas.Int.{to_z-of_z}
use Rattle.std.proofs.lemmas.Slice.{pushed}
use Rattle.rulefile.specs.Model.{WishModel, wish_of}
use Rattle.rulefile.specs.WeakConstraints.{IsSetOf, has_key}
use Rattle.rulefile.proofs.Weak.{zip_push, set_stands, passed_more}
use Rattle.rulefile.proofs.weak_constraints.Group.of.Goals as goal
use Rattle.rulefile.proofs.weak_constraints.Group.of.Goals.{then-has_key+in_ok-push, else-has_key}

pub loop-other-preserved : goal.loop-other-preserved
loop-other-preserved c =
    let w = c.other-item.result in
    let i = c.loop-other.other-index in
    let literals = λ (v : WishModel). v.literals in
    let before = map literals (filter (has_key c.args.key) (map wish_of (take i c.args.later.now))) in
    let more = passed_more literals (has_key c.args.key) c.args.later.now i w c.loop-other-test.true c.other-item.is in
    elim c.if-has_key.branch [
      | then-has_key+in_ok-push b ↦
          let items = pushed {was = vec_items c.loop-other.others} (b.of.result ∷ []) refl b.in_ok-push.was b.push.ensures.items in
          let lists = more ∙ ap (λ t. before ++ cond t (literals (wish_of w) ∷ []) []) (sym c.has_key.ensures ∙ b.if-has_key.true) in
          let set = set_stands w b.of.result b.deref.ensures.value b.of.ensures in
          subst (AllZip IsSetOf (vec_items c.if-has_key.others)) (sym lists)
          (subst (λ sets. AllZip IsSetOf sets (before ++ literals (wish_of w) ∷ [])) (sym (ap vec_items b.others-is ∙ items))
          (zip_push IsSetOf (vec_items c.loop-other.others) before b.of.result (literals (wish_of w)) c.loop-other.invariant set))
      | else-has_key b ↦
          let lists = more ∙ ap (λ t. before ++ cond t (literals (wish_of w) ∷ []) []) (sym c.has_key.ensures ∙ b.if-has_key.false) ∙ append-nil before in
          subst (AllZip IsSetOf (vec_items c.if-has_key.others)) (sym lists)
          (subst (λ (v : Vec LiteralSet Global). AllZip IsSetOf (vec_items v) before) (sym b.others-is) c.loop-other.invariant)
    ]

pub returns : goal.returns
returns c =
    let fits : SFits w16 c.args.wish.now.weight = search rules in
    let all = take_all c.loop-other.other-index c.args.later.now c.loop-other-test.false in (
      refl,
      to_z-of_z w16 c.args.wish.now.weight fits,
      (
        set_stands c.args.wish.now c.of-2.result c.deref-2.ensures.value c.of-2.ensures,
        subst (λ ws. AllZip IsSetOf (vec_items c.loop-other.others) (map (λ (w : WishModel). w.literals) (filter (has_key c.args.key) (map wish_of ws)))) all c.loop-other.invariant,
      ),
    )
