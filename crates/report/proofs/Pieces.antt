-- A text that is written piece by piece.
use Rattle.std.proofs.Common.{◌≡◌, ℕ, List, [], ◌++◌, length, take, drop, sym, refl, ap, ◌∙◌, subst, ap₂, arith}
use Rattle.std.proofs.lemmas.List.{append-nil, append_assoc, length-append, take-append-drop, drop-drop}
use Rattle.report.specs.declared.writing.Writer.{Writer}
use Rattle.report.specs.Writing.{written, behind, HasRoom, Writes}

-- where there is room for the whole, there is for its first piece
pub room_first : {w : Writer} (t u : List ℕ) → HasRoom w (t ++ u) → HasRoom w t
room_first t u f = record { room = omega (arith, length-append t u, f.room) }

-- and, once that is written, for the rest
pub room_rest : {w v : Writer} {t : List ℕ} (u : List ℕ) → Writes w t v → HasRoom w (t ++ u) → HasRoom v u
room_rest {t} u p f = record { room = omega (arith, length-append t u, f.room, p.len, p.same_length) }

-- one text is written behind another
pub writes_join : {w v x : Writer} {t u : List ℕ} → Writes w t v → Writes v u x → Writes w (t ++ u) x
writes_join {w} {t} {u} p q = record {
  same_reference = q.same_reference ∙ p.same_reference;
  same_length = q.same_length ∙ p.same_length;
  len = omega (arith, p.len, q.len, length-append t u);
  follows = q.follows ∙ ap (λ (l : List ℕ). l ++ u) p.follows ∙ append_assoc (written w) t u;
  others = q.others ∙ ap (drop (length u)) p.others ∙ drop-drop (length u) (length t) (behind w) ∙ ap (λ (n : ℕ). drop n (behind w)) (sym (length-append t u));
}

-- nothing is written
pub writes_none : (w : Writer) → Writes w [] w
writes_none w = record {
  same_reference = refl;
  same_length = refl;
  len = omega arith;
  follows = sym (append-nil (written w));
  others = refl;
}

-- the text stands at the front of the buffer, and the bytes behind it are as they were
pub writes_front : {w v : Writer} {t before : List ℕ} → w.len ≡ 0 → w.out.now ≡ before → Writes w t v → v.out.now ≡ t ++ drop (length t) before
writes_front {w} {v} {t} none same p =
    sym (take-append-drop v.len v.out.now)
    ∙ ap₂ (λ (x y : List ℕ). x ++ y) (p.follows ∙ ap (λ (n : ℕ). take n w.out.now ++ t) none) (p.others ∙ ap (λ (n : ℕ). drop (length t) (drop n w.out.now)) none)
    ∙ ap (λ (x : List ℕ). t ++ drop (length t) x) same

-- ---- the same text by another name

pub room_like : {w : Writer} {t u : List ℕ} → t ≡ u → HasRoom w t → HasRoom w u
room_like {w} same f = subst (HasRoom w) same f

pub writes_like : {w v : Writer} {t u : List ℕ} → t ≡ u → Writes w t v → Writes w u v
writes_like {w} {v} same p = subst (λ (t : List ℕ). Writes w t v) same p

-- ---- pieces that a loop writes

-- of the whole, what is left is still to be written: there is room for it, and whatever writes it has written the whole
pub record Left (w : Writer) (whole : List ℕ) (v : Writer) (rest : List ℕ) : Type 0 where
  pub room : HasRoom v rest
  pub ends : (x : Writer) → Writes v rest x → Writes w whole x

pub left_all : {w : Writer} {t u : List ℕ} → t ≡ u → HasRoom w t → Left w t w u
left_all same f = record { room = room_like same f; ends = λ x p. writes_like (sym same) p }

pub left_like : {w v : Writer} {whole rest more : List ℕ} → rest ≡ more → Left w whole v rest → Left w whole v more
left_like {w} {v} {whole} same l = subst (λ (t : List ℕ). Left w whole v t) same l

-- there is room for the first piece of what is left
pub left_first : {w v : Writer} {whole rest : List ℕ} (t u : List ℕ) → rest ≡ t ++ u → Left w whole v rest → HasRoom v t
left_first t u same l = room_first t u (room_like same l.room)

-- that piece is written
pub left_more : {w v x : Writer} {whole rest t : List ℕ} (u : List ℕ) → rest ≡ t ++ u → Left w whole v rest → Writes v t x → Left w whole x u
left_more u same l p = record {
  room = room_rest u p (room_like same l.room);
  ends = λ y q. l.ends y (writes_like (sym same) (writes_join p q));
}

-- nothing is left
pub left_none : {w v : Writer} {whole rest : List ℕ} → rest ≡ [] → Left w whole v rest → Writes w whole v
left_none {v} same l = l.ends v (writes_like (sym same) (writes_none v))
