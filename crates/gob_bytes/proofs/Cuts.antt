use Rattle.std.proofs.Common.{◌≡◌, ℕ, suc, ◌+◌, ◌<◌, ◌≤◌, Bool, true, false, cond, List, [], ◌∷◌, ◌++◌, length, nat_eq}
use Rattle.std.proofs.Common.{All, refl, sym, ap, ◌∙◌, map, arith, append_assoc, length-append, append-nil, add-one}
use Rattle.std.proofs.Common.{zero}
use Rattle.std.specs.List.{flat_map, list_all}
use Rattle.std.proofs.Common.{not, ◌&&◌}
use Rattle.std.specs.List.Sorted.{IsStrictlyIncreasing}
use Rattle.std.proofs.lemmas.Bool.{cond_both, eqb-true, and_from}
use Rattle.std.proofs.lemmas.List.Elements.{All-nil, All-cons, All-head, All-weaker}
use Rattle.gob_bytes.specs.Lines.{Line, raw_of, end_of, line_ends, lines_from, rest_from, start_from, LinesJoin}
use Rattle.gob_bytes.specs.Lines.{has_no_feed, StandInARowFrom, LinesFill, LineEndsAreTold}

-- the lines of x and then those that go on from its rest
pub lines-append : (x y : List ℕ) (start : ℕ) (begun : List ℕ) →
    lines_from start begun (x ++ y) ≡ lines_from start begun x ++ lines_from (start_from start begun x)
    (rest_from begun x) y
unfolding lines_from rest_from start_from
lines-append [] y start begun = refl
lines-append (b ∷ x) y start begun =
    elim (nat_eq b 10) as (λ v.
    cond v (record { start = start; body = begun } ∷ lines_from (start + length begun + 1) [] (x ++ y))
    (lines_from start (begun ++ b ∷ []) (x ++ y))
    ≡ cond v (record { start = start; body = begun } ∷ lines_from (start + length begun + 1) [] x)
    (lines_from start (begun ++ b ∷ []) x)
    ++ lines_from (cond v (start_from (start + length begun + 1) [] x) (start_from start (begun ++ b ∷ []) x))
    (cond v (rest_from [] x) (rest_from (begun ++ b ∷ []) x)) y) [
      | true ↦ ap (λ (ls : List Line). record { start = start; body = begun } ∷ ls)
          (lines-append x y (start + length begun + 1) [])
      | false ↦ lines-append x y start (begun ++ b ∷ [])
    ]

pub rest-append : (x y : List ℕ) (begun : List ℕ) → rest_from begun (x ++ y) ≡ rest_from (rest_from begun x) y
unfolding rest_from
rest-append [] y begun = refl
rest-append (b ∷ x) y begun =
    elim (nat_eq b 10) as
    (λ v. cond v (rest_from [] (x ++ y)) (rest_from (begun ++ b ∷ []) (x ++ y)) ≡
    rest_from (cond v (rest_from [] x) (rest_from (begun ++ b ∷ []) x)) y) [
      | true ↦ rest-append x y []
      | false ↦ rest-append x y (begun ++ b ∷ [])
    ]

pub lines_join : (x y : List ℕ) → LinesJoin x y
lines_join x y = record { lines = lines-append x y 0 []; rest = rest-append x y [] }

-- ---- where lines end

-- an end of a line that lies after this place, and at most so many bytes after it
abbrev Between : ℕ → ℕ → ℕ → Type 0
Between place many e = (place < e) × (e ≤ place + many)

between_later : (place many e : ℕ) → Between (place + 1 + 0) many e → Between place (suc many) e
between_later place many e h = (omega arith, omega arith)

between_joined : (start : ℕ) (begun : List ℕ) (b many e : ℕ) → Between (start + length (begun ++ b ∷ [])) many e →
    Between (start + length begun) (suc many) e
between_joined start begun b many e h = let l = length-append begun (b ∷ []) in (omega arith, omega arith)

-- every line that goes on from the bytes begun ends after them, and within the text
ends_between : (bytes : List ℕ) (start : ℕ) (begun : List ℕ) →
    All (Between (start + length begun) (length bytes)) (map end_of (lines_from start begun bytes))
unfolding lines_from
ends_between [] start begun = All-nil (Between (start + length begun) 0)
ends_between (b ∷ bs) start begun =
    let P : ℕ → Type 0 = Between (start + length begun) (suc (length bs)) in
    let after = All-weaker (Between (start + length begun + 1 + 0) (length bs)) P
    (between_later (start + length begun) (length bs)) (map end_of (lines_from (start + length begun + 1) [] bs))
    (ends_between bs (start + length begun + 1) []) in
    let within = All-weaker (Between (start + length (begun ++ b ∷ [])) (length bs)) P
    (between_joined start begun b (length bs)) (map end_of (lines_from start (begun ++ b ∷ []) bs))
    (ends_between bs start (begun ++ b ∷ [])) in
    cond_both (nat_eq b 10) (record { start = start; body = begun } ∷ lines_from (start + length begun + 1) [] bs)
    (lines_from start (begun ++ b ∷ []) bs) (λ ls. All P (map end_of ls))
    (λ _. All-cons P (start + length begun + 1) _ (omega arith, omega arith) after)
    (λ _. within)

increasing-cons : (e : ℕ) (es : List ℕ) → All (λ x. e < x) es → IsStrictlyIncreasing es → IsStrictlyIncreasing (e ∷ es)
increasing-cons e [] above rising zero inside = absurd (omega arith)
increasing-cons e (x ∷ es) above rising zero inside = All-head (λ y. e < y) x es above
increasing-cons e es above rising (suc k) inside = rw add-one (rw add-one at (rising k (omega arith)))

ends_rise : (bytes : List ℕ) (start : ℕ) (begun : List ℕ) →
    IsStrictlyIncreasing (map end_of (lines_from start begun bytes))
unfolding lines_from
ends_rise [] start begun = λ k h. absurd (omega arith)
ends_rise (b ∷ bs) start begun =
    let later : ℕ = start + length begun + 1 in
    let above = All-weaker (Between (later + 0) (length bs)) (λ x. later < x)
    (λ (e : ℕ) (h : Between (later + 0) (length bs) e). omega arith) (map end_of (lines_from later [] bs))
    (ends_between bs later []) in
    cond_both (nat_eq b 10) (record { start = start; body = begun } ∷ lines_from later [] bs)
    (lines_from start (begun ++ b ∷ []) bs) (λ ls. IsStrictlyIncreasing (map end_of ls))
    (λ _. increasing-cons later (map end_of (lines_from later [] bs)) above (ends_rise bs later []))
    (λ _. ends_rise bs start (begun ++ b ∷ []))

rest_place : (bytes : List ℕ) (start : ℕ) (begun : List ℕ) →
    start_from start begun bytes + length (rest_from begun bytes) ≡ start + length begun + length bytes
unfolding start_from rest_from
rest_place [] start begun = omega arith
rest_place (b ∷ bs) start begun =
    elim (nat_eq b 10) as
    (λ v. cond v (start_from (start + length begun + 1) [] bs) (start_from start (begun ++ b ∷ []) bs) + length
    (cond v (rest_from [] bs) (rest_from (begun ++ b ∷ []) bs)) ≡ start + length begun + suc (length bs)) [
      | true ↦ let later = rest_place bs (start + length begun + 1) [] in omega arith
      | false ↦ let later = rest_place bs start (begun ++ b ∷ []) in let l = length-append begun (b ∷ []) in omega arith
    ]

cond_pair : {A B : Type 0} (t : Bool) (x y : A) (u v : B) (P : A → B → Type 0) → (t ≡ true → P x u) →
    (t ≡ false → P y v) → P (cond t x y) (cond t u v)
cond_pair true x y u v P then' else' = then' refl
cond_pair false x y u v P then' else' = else' refl

lines_whole : (bytes : List ℕ) (start : ℕ) (begun : List ℕ) →
    flat_map raw_of (lines_from start begun bytes) ++ rest_from begun bytes ≡ begun ++ bytes
unfolding lines_from rest_from
lines_whole [] start begun = sym (append-nil begun)
lines_whole (b ∷ bs) start begun =
    cond_pair (nat_eq b 10) (record { start = start; body = begun } ∷ lines_from (start + length begun + 1) [] bs)
    (lines_from start (begun ++ b ∷ []) bs) (rest_from [] bs) (rest_from (begun ++ b ∷ []) bs)
    (λ ls r. flat_map raw_of ls ++ r ≡ begun ++ b ∷ bs)
    (λ feed. append_assoc (begun ++ 10 ∷ []) _ _
    ∙ ap (λ r. (begun ++ 10 ∷ []) ++ r) (lines_whole bs (start + length begun + 1) [])
    ∙ append_assoc begun (10 ∷ []) bs ∙ ap (λ c. begun ++ c ∷ bs) (sym (eqb-true b 10 feed)))
    (λ _. lines_whole bs start (begun ++ b ∷ []) ∙ append_assoc begun (b ∷ []) bs)

-- ---- what lines hold, and where they start

clear_more : (begun : List ℕ) (b : ℕ) → has_no_feed begun ≡ true → nat_eq b 10 ≡ false
    → has_no_feed (begun ++ b ∷ []) ≡ true
clear_more [] b clear other = rw other
clear_more (c ∷ begun) b clear other = both (not (nat_eq c 10)) _ _ clear (λ rest. clear_more begun b rest other)
  where
    both : (x y z : Bool) → (x && y) ≡ true → (y ≡ true → z ≡ true) → (x && z) ≡ true
    both true y z is more = more is
    both false y z is more = is

bodies_clear : (bytes : List ℕ) (start : ℕ) (begun : List ℕ) → has_no_feed begun ≡ true →
    list_all (λ l. has_no_feed l.body) (lines_from start begun bytes) ≡ true
unfolding lines_from
bodies_clear [] start begun clear = refl
bodies_clear (b ∷ bs) start begun clear =
    cond_both (nat_eq b 10) (record { start = start; body = begun } ∷ lines_from (start + length begun + 1) [] bs)
    (lines_from start (begun ++ b ∷ []) bs) (λ ls. list_all (λ l. has_no_feed l.body) ls ≡ true)
    (λ feed. and_from _ _ clear (bodies_clear bs (start + length begun + 1) [] refl))
    (λ other. bodies_clear bs start (begun ++ b ∷ []) (clear_more begun b clear other))

in_a_row : (bytes : List ℕ) (start : ℕ) (begun : List ℕ) → StandInARowFrom start (lines_from start begun bytes)
unfolding lines_from
in_a_row [] start begun = tt
in_a_row (b ∷ bs) start begun =
    cond_both (nat_eq b 10) (record { start = start; body = begun } ∷ lines_from (start + length begun + 1) [] bs)
    (lines_from start (begun ++ b ∷ []) bs) (StandInARowFrom start)
    (λ feed. (refl, in_a_row bs (start + length begun + 1) []))
    (λ other. in_a_row bs start (begun ++ b ∷ []))

-- what has begun counts by its length alone
ends_shown : (shown : ℕ → ℕ) → ((b : ℕ) → nat_eq (shown b) 10 ≡ nat_eq b 10) → (bytes : List ℕ) (start : ℕ)
    (begun other : List ℕ) → length begun ≡ length other →
    map end_of (lines_from start begun (map shown bytes)) ≡ map end_of (lines_from start other bytes)
unfolding lines_from
ends_shown shown feeds [] start begun other same = refl
ends_shown shown feeds (b ∷ bs) start begun other same =
    ap (λ v. map end_of (cond v
    (record { start = start; body = begun } ∷ lines_from (start + length begun + 1) [] (map shown bs))
    (lines_from start (begun ++ shown b ∷ []) (map shown bs)))) (feeds b)
    ∙ elim (nat_eq b 10) as (λ v. map end_of (cond v
    (record { start = start; body = begun } ∷ lines_from (start + length begun + 1) [] (map shown bs))
    (lines_from start (begun ++ shown b ∷ []) (map shown bs)))
    ≡ map end_of (cond v
    (record { start = start; body = other } ∷ lines_from (start + length other + 1) [] bs)
    (lines_from start (other ++ b ∷ []) bs))) [
      | true ↦ ap (λ n. (start + n + 1) ∷ map end_of (lines_from (start + n + 1) [] (map shown bs))) same
          ∙ ap (λ es. (start + length other + 1) ∷ es) (ends_shown shown feeds bs (start + length other + 1) [] [] refl)
      | false ↦ ends_shown shown feeds bs start (begun ++ shown b ∷ []) (other ++ b ∷ [])
          (omega (arith, same, length-append begun (shown b ∷ []), length-append other (b ∷ [])))
    ]

pub ends_told : LineEndsAreTold
ends_told shown feeds bytes = ends_shown shown feeds bytes 0 [] [] refl

pub lines_fill : (bytes : List ℕ) → LinesFill bytes
lines_fill bytes = record {
  rising = ends_rise bytes 0 [];
  within = All-weaker (Between (0 + 0) (length bytes)) (λ e. e ≤ length bytes)
      (λ (e : ℕ) (h : Between (0 + 0) (length bytes) e). omega arith) (line_ends bytes) (ends_between bytes 0 []);
  bodies = bodies_clear bytes 0 [] refl;
  in_a_row = in_a_row bytes 0 [];
  start = let place = rest_place bytes 0 [] in omega arith;
  whole = lines_whole bytes 0 [];
}
