use Rattle.std.proofs.Common.{◌≡◌, ◌-◌, [], ◌∷◌, ◌++◌, ℤ, sym, refl, ap, ◌∙◌, w32, to_z, of_z, SFits, rules}
use Rattle.std.specs.Fmt.{signed_decimal}
use Rattle.std.proofs.lemmas.Int.{to_z-of_z}
use Rattle.scales.specs.Wishes.{cost_at}
use Rattle.report.proofs.Pieces.{room_like, writes_like, left_all, left_first, left_more, left_none}
use Rattle.report.proofs.Texts.{levels_left, levels_left_more, levels_left_none}
use Rattle.report.proofs.writing.Writer.levels.Goals as goal

-- the cost as it is read back
read : (w v : ℤ) → SFits w32 w → w ≡ v → signed_decimal (to_z w32 (of_z w32 w)) ≡ signed_decimal v
read w v fits e = ap signed_decimal (to_z-of_z w32 w fits ∙ e)

pub returns : goal.returns
returns c = left_none (levels_left_none c.args.cost.levels c.loop-level.level c.loop-level-test.false) c.loop-level.invariant

pub loop-level-init : goal.loop-level-init
unfolding levels_left
loop-level-init c = left_all refl c.requires

pub text-requires : goal.text-requires
text-requires c =
    let levels = c.args.cost.levels in
    let n = c.loop-level.level in
    left_first (32 ∷ []) (signed_decimal (cost_at levels n) ++ levels_left levels (n - 1)) (levels_left_more levels n c.loop-level-test.true) c.loop-level.invariant

pub signed-requires : goal.signed-requires
signed-requires c =
    let levels = c.args.cost.levels in
    let n = c.loop-level.level in
    let cost = signed_decimal (cost_at levels n) in
    let rest = levels_left levels (n - 1) in
    room_like (sym (read c.at.result (cost_at levels n) (search rules) c.at.ensures))
    (left_first cost rest refl (left_more (cost ++ rest) (levels_left_more levels n c.loop-level-test.true) c.loop-level.invariant c.text.ensures))

pub loop-level-preserved : goal.loop-level-preserved
loop-level-preserved c =
    let levels = c.args.cost.levels in
    let n = c.loop-level.level in
    let rest = levels_left levels (n - 1) in
    left_more rest refl
    (left_more (signed_decimal (cost_at levels n) ++ rest) (levels_left_more levels n c.loop-level-test.true) c.loop-level.invariant c.text.ensures)
    (writes_like (read c.at.result (cost_at levels n) (search rules) c.at.ensures) c.signed.ensures)
