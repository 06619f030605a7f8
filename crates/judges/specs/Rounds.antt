-- How the program reaches the closure of the reduct for a sheet z: from no mark, by rounds over the rules, until a round
-- adds nothing. No public contract cites this file; that the closure is reached is proved. s is the set of marks reached.
use Rattle.std.specs.Prelude.{◌^◌, Bool, cond, ◌&&◌, List, fold, bit_or, nat_le}
use Rattle.std.specs.List.{list_all}
use Rattle.sheets.specs.Sheets.{Sheet}
use Rattle.sheets.specs.Literals.{held, holds, by_words}
use Rattle.rulefile.specs.declared.constraints.Element.{Element}
use Rattle.rulefile.specs.Model.{ConstraintModel, RuleModel}
use Rattle.judges.specs.Programs.{weigh, at_most, plain}

-- the constraint's sum in z is not above its high bound, and its plain elements with marks in s, with its "not" elements
-- that hold in z, weigh its low bound or more
abbrev pub supported : Sheet → Sheet → ConstraintModel → Bool
supported z s k = at_most (weigh (holds z) k.elements) k.high && nat_le k.low (weigh (held (by_words s z)) k.elements)

-- s with the mark of the head element, if that is plain and holds in z
abbrev pub added : Sheet → Element → Sheet → Sheet
added z e s = cond (plain e.literal && holds z e.literal) (bit_or s (2 ^ e.literal.mark)) s

-- s with each such head mark
abbrev pub with_heads : Sheet → List Element → Sheet → Sheet
with_heads z es s = fold (λ marks e. added z e marks) s es

-- s with the head marks of the rule, if the whole body is supported
abbrev pub fired : Sheet → RuleModel → Sheet → Sheet
fired z r s = cond (list_all (supported z s) r.body) (with_heads z r.head.elements s) s

-- once through the rules
abbrev pub round : Sheet → List RuleModel → Sheet → Sheet
round z rs s = fold (λ marks r. fired z r marks) s rs
