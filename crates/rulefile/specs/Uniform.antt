-- Elements of one weight.
use Rattle.std.specs.Prelude.{◌≡◌, true, List, map, ◌==◌}
use Rattle.std.specs.List.{list_all}
use Rattle.sheets.specs.declared.literals.Literal.{Literal}
use Rattle.sheets.specs.LiteralSets.{Stands, distinct}
use Rattle.rulefile.specs.declared.constraints.Element.{Element}
use Rattle.rulefile.specs.declared.uniform.Uniform.{Uniform}

-- the literals of elements, in their order
abbrev pub literals_of : List Element → List Literal
literals_of es = map (λ (e : Element). e.literal) es

-- each element has the weight, the set stands for their literals, and none of these stands twice
pub record AreUniform (es : List Element) (u : Uniform) : Type 0 where
  pub weights : list_all (λ (e : Element). e.weight == u.weight) es ≡ true
  pub words : Stands u.literals.plain u.literals.nots (literals_of es)
  pub once : distinct (literals_of es) ≡ true
