use Rattle.std.proofs.Common.{◌^◌, ◌<◌, ◌≤◌, ltb, sym, ◌∙◌, arith, pow_pos, pow_mono}
use Rattle.std.proofs.lemmas.Bool.{lt-ltb, le-leb}
use Rattle.std.proofs.lemmas.Bool.Decides.{Decides-at}
use Rattle.sheets.specs.Sheets.{width}
use Rattle.sheets.specs.laws.Bits.{decides_below, quotient_none}
use Rattle.sheets.proofs.marks.within_count.Goals as goal

pub returns-then-count-ge-WIDTH : goal.returns-then-count-ge-WIDTH
returns-then-count-ge-WIDTH c =
    let from : width ≤ c.args.count = c.if-count-ge-WIDTH.true in
    let word : c.args.sheet < 2 ^ c.args.count = omega (arith, pow_mono {i = width} {j = c.args.count} from) in
    let e = le-leb width c.args.count from ∙ sym (lt-ltb c.args.sheet (2 ^ c.args.count) word) in
    record { value = e; meaning = Decides-at _ (ltb c.args.sheet (2 ^ c.args.count)) e (decides_below c.args.count c.args.sheet) }

pub returns-else-count-ge-WIDTH : goal.returns-else-count-ge-WIDTH
returns-else-count-ge-WIDTH c =
    let e = quotient_none c.args.sheet (2 ^ c.args.count) (pow_pos c.args.count) in
    record { value = e; meaning = Decides-at _ (ltb c.args.sheet (2 ^ c.args.count)) e (decides_below c.args.count c.args.sheet) }
