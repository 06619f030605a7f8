-- How many marks pass a test.
use Rattle.std.specs.Prelude.{ℕ, zero, suc, ◌+◌, Bool, cond}

-- how many of the first n marks pass the test: mark 0, and those after it
unfoldable pub marks_where : ℕ → (ℕ → Bool) → ℕ
marks_where zero test = 0
marks_where (suc n) test = cond (test 0) 1 0 + marks_where n (λ i. test (suc i))
