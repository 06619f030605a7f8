use Rattle.std.proofs.Common.{refl, w16, SFits, rules}
use Rattle.std.proofs.lemmas.Int.{to_z-of_z}
use Rattle.rulefile.proofs.Weak.{set_stands}
use Rattle.rulefile.proofs.weak_constraints.Single.of.Goals as goal

pub returns : goal.returns
returns c =
    let fits : SFits w16 c.args.wish.now.weight = search rules in (
      refl,
      to_z-of_z w16 c.args.wish.now.weight fits,
      (set_stands c.args.wish.now c.of.result c.deref.ensures.value c.of.ensures, tt),
    )
