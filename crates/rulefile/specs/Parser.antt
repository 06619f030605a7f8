-- Parsers: what one takes from the front of a list of bytes, and what it leaves, or why it refuses.
use Rattle.std.specs.Prelude.{ℕ, zero, suc, ◌+◌, ◌*◌, Bool, cond, ◌&&◌, List, [], ◌∷◌, length, take, drop, Ok, Err, Result, nat_le}
use Rattle.rulefile.specs.declared.refusals.Refusal.{Refusal}
use Rattle.rulefile.specs.declared.refusals.Refusal.TheVariants.{BodyLength, OutOfRange}

-- what is taken with the bytes that are left, or a refusal
pub data Parse (A : Type 0) : Type 0 where
  took : A → List ℕ → Parse A
  fails : Refusal → Parse A

-- what reads an A from the front of a list of bytes
abbrev pub Parser : Type 0 → Type 0
Parser A = List ℕ → Parse A

-- goes on with what was taken, at the bytes that are left
abbrev pub after : {A B : Type 0} → Parse A → (A → Parser B) → Parse B
after (took x rest) f = f x rest
after (fails why) f = fails why

infixl 10 ◌>>=◌ ◌>>◌
-- first p, and then what f says of the value that p took
abbrev pub ◌>>=◌ : {A B : Type 0} → Parser A → (A → Parser B) → Parser B
◌>>=◌ p f bs = after (p bs) f

-- first p, and then q; what p took is dropped
abbrev pub ◌>>◌ : {A B : Type 0} → Parser A → Parser B → Parser B
◌>>◌ p q bs = after (p bs) (λ _. q)

-- takes nothing
abbrev pub pure : {A : Type 0} → A → Parser A
pure x bs = took x bs

-- refuses whatever the bytes are
abbrev pub refuse : {A : Type 0} → Refusal → Parser A
refuse why bs = fails why

-- takes nothing, and refuses unless the test holds
abbrev pub check : Bool → Refusal → Parser (Unit {0})
check ok why bs = cond ok (took tt bs) (fails why)

-- takes nothing, and answers what is given
abbrev pub parsed : {A : Type 0} → Result A Refusal → Parser A
parsed (Ok x) bs = took x bs
parsed (Err why) bs = fails why

-- the next n bytes
abbrev pub bytes : ℕ → Refusal → Parser (List ℕ)
bytes n why bs = cond (nat_le n (length bs)) (took (take n bs) (drop n bs)) (fails why)

-- the number that bytes stand for, the lowest byte first
abbrev pub little : List ℕ → ℕ
little [] = 0
little (b ∷ bs) = b + little bs * 256

-- a field of a body: a number of n bytes
unfoldable pub field : ℕ → Parser ℕ
field n = do
  bs ← bytes n BodyLength
  pure (little bs)

-- a one-byte number from low to high
unfoldable pub within : ℕ → ℕ → Parser ℕ
within low high = do
  n ← field 1
  check (nat_le low n && nat_le n high) OutOfRange
  pure n

-- n things, one after another
unfoldable pub times : {A : Type 0} → ℕ → Parser A → Parser (List A)
times zero p = pure []
times (suc n) p = do
  x ← p
  xs ← times n p
  pure (x ∷ xs)

-- no byte is left
abbrev pub end : Parser (Unit {0})
end [] = took tt []
end (b ∷ bs) = fails BodyLength

-- what p takes, where it leaves no byte
abbrev pub wholly : {A : Type 0} → Parser A → Parser A
wholly p = do
  x ← p
  end
  pure x
