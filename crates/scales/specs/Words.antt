-- What is printed of a cost.
use Rattle.std.specs.Prelude.{ℕ, List, [], ◌∷◌, ◌++◌, ℤ, codes}
use Rattle.std.specs.List.{flat_map}
use Rattle.std.specs.Fmt.{signed_decimal}

-- the numbers of a list, one space apart; those of a cost are its sums from the top level down
abbrev pub cost_words : List ℤ → List ℕ
cost_words [] = []
cost_words (x ∷ xs) = signed_decimal x ++ flat_map (λ y. codes " " ++ signed_decimal y) xs
