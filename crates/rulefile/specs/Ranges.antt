-- The limits of the format. Every other file names them.
use Rattle.std.specs.Prelude.{ℕ, Bool, ◌&&◌, ℤ, pos, neg_ℤ, int_le, nat_le}

-- how many bytes a file can have
abbrev pub most_bytes : ℕ
most_bytes = 32768

-- the least length that a record can say: that of its kind, with no body
abbrev pub least_length : ℕ
least_length = 2

-- the greatest length that a record can say
abbrev pub most_length : ℕ
most_length = 1024

-- how many records of one kind a file can have; wishes of both kinds count as one
abbrev pub most_of_kind : ℕ
most_of_kind = 256

-- how many constraints the body of a rule can have
abbrev pub most_constraints : ℕ
most_constraints = 8

-- how many elements a constraint can have
abbrev pub most_elements : ℕ
most_elements = 32

-- how many literals a clause can have
abbrev pub most_clause_literals : ℕ
most_clause_literals = 32

-- how many literals a wish can have
abbrev pub most_wish_literals : ℕ
most_wish_literals = 16

-- the greatest level of a wish; levels are numbered from 1
abbrev pub top_level : ℕ
top_level = 8

-- the greatest weight of a wish; the least is as far below 0
abbrev pub most_weight : ℕ
most_weight = 10000

-- the weight of a wish is in its range
abbrev pub is_weight : ℤ → Bool
is_weight w = int_le (neg_ℤ (pos most_weight)) w && int_le w (pos most_weight)

-- stands for no high bound
abbrev pub no_high : ℕ
no_high = 4294967295

-- the greatest code of an act; they are numbered from 1
abbrev pub most_code : ℕ
most_code = 4

-- is added to a mark for "not"
abbrev pub not_bit : ℕ
not_bit = 128

-- how many bytes a sheet field has
abbrev pub sheet_bytes : ℕ
sheet_bytes = 8

-- a length that a record can say
abbrev pub is_length : ℕ → Bool
is_length n = nat_le least_length n && nat_le n most_length
