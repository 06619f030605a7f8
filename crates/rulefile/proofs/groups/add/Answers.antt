use Rattle.std.proofs.Common.{◌≡◌, Bool, true, false, not, refl, append-nil, [], ◌∷◌, ◌++◌, cond, sym, ap, ◌∙◌, subst, vec_items}
use Rattle.std.specs.List.{AllZip}
use Rattle.rulefile.specs.WeakConstraints.{IsSingle, IsGroup, is_single}
use Rattle.rulefile.proofs.Weak.{zip_push}
use Rattle.rulefile.proofs.groups.add.Goals as goal

pub returns-in_ok-push-in-Some-clause-singles : goal.returns-in_ok-push-in-Some-clause-singles
returns-in_ok-push-in-Some-clause-singles c = λ ms m h all.
    let one = c.in-Some.ensures m h in
    subst (AllZip IsSingle (vec_items c.push.new.self)) (ap (λ b. ms ++ cond b (m ∷ []) []) (sym one.0))
    (subst (λ ss. AllZip IsSingle ss (ms ++ m ∷ [])) (sym c.in_ok-push-in-Some.ensures.items) (zip_push IsSingle (vec_items c.args.singles.now) ms c.in-Some.single m all one.1))

pub returns-in_ok-push-in-None-clause-singles : goal.returns-in_ok-push-in-None-clause-singles
returns-in_ok-push-in-None-clause-singles c = λ ms m h all. subst (AllZip IsSingle (vec_items c.args.singles.now)) (sym (ap (λ b. ms ++ cond b (m ∷ []) []) (not_larger (is_single m) (c.in-None.ensures m h)) ∙ append-nil ms)) all
  where
    not_larger : (b : Bool) → not b ≡ true → b ≡ false
    not_larger true e = sym e
    not_larger false e = refl

pub returns-in_ok-push-in-None-clause-groups : goal.returns-in_ok-push-in-None-clause-groups
returns-in_ok-push-in-None-clause-groups c = λ ms m h all.
    subst (AllZip IsGroup (vec_items c.push-in-None.new.self)) (ap (λ b. ms ++ cond b (m ∷ []) []) (sym (c.in-None.ensures m h)))
    (subst (λ gs. AllZip IsGroup gs (ms ++ m ∷ [])) (sym c.in_ok-push-in-None.ensures.items) (zip_push IsGroup (vec_items c.args.groups.now) ms c.args.group m all h))
