-- Partitions that are sorted in place: the front is a table already, the rest is to come.
use Rattle.std.proofs.Common.{◌≡◌, ◌≢◌, ℕ, suc, ◌+◌, ◌-◌, ◌^◌, ◌<◌, ◌≤◌, List, [], ◌∷◌, ◌++◌, length, take, drop}
use Rattle.std.proofs.Common.{get_or, length-append, sym, ap, subst, ◌∙◌, arith, add-one}
use Rattle.std.proofs.Math.ListN.{set}
use Rattle.std.proofs.lemmas.List.{take_at, drop_at, drop_more, length-take-le, length-set, set-append_left}
use Rattle.std.proofs.lemmas.List.Edits.{insert-append_left, length-insert}
use Rattle.std.specs.List.{All, insert, remove}
use Rattle.gob_bytes.specs.Tables.{with_name}
use Rattle.gob_device.specs.Supply.{Held, IsListed, listing_of}
use Rattle.gob_memory.specs.Places.{StandsAt, GoesAt}
use Rattle.gob_memory.proofs.Places.{with-stands, with-goes}
use Rattle.gob_io.specs.ByName.{table_of, with_parts}
use Rattle.gob_io.proofs.Listed.{listed-with_name}

pub record Sorting (parts items : Held) (done : ℕ) : Type 0 where
  pub table : with_parts (take done items) (drop done items) ≡ table_of parts
  pub listed : IsListed (listing_of (take done items))
  pub named : All (λ p. p.0 ≢ []) (drop done items)
  pub within : done ≤ length items

-- the next part has a name and a size that fits
pub record NextFits (items : Held) (done : ℕ) (name bytes : List ℕ) : Type 0 where
  pub here : done < length items
  pub next : (name, bytes) ≡ get_or items done (name, bytes)
  pub fits : length bytes ≤ 2 ^ 63 - 1

-- a part that is taken out leaves the front as it is
pub front_stays : {parts items left : Held} {done : ℕ} → Sorting parts items done → left ≡ remove items done
    → take done left ≡ take done items
front_stays {parts} {items} {left} {done} at is = ap (take done) is
    ∙ take_at (take done items) (drop (suc done) items) done (length-take-le done items at.within)

next_named : (parts items : Held) (done : ℕ) (name bytes : List ℕ) → Sorting parts items done
    → NextFits items done name bytes → name ≢ []
next_named parts items done name bytes at next none =
    let x : List ℕ × List ℕ = (name, bytes) in
    let more : drop done items ≡ get_or items done x ∷ drop (done + 1) items = drop_more items done x next.here in
    let first : 0 < length (drop done items) = rw more (omega arith) in
    at.named 0 x first (ap (λ (l : Held). (get_or l 0 x).0) more ∙ ap (λ (p : List ℕ × List ℕ). p.0) (sym next.next)
    ∙ none)

sorts : (parts items front : Held) (done now : ℕ) (name bytes : List ℕ) → Sorting parts items done
    → NextFits items done name bytes → front ≡ with_name (take done items) name bytes → length front ≡ now
    → Sorting parts (front ++ drop (suc done) items) now
sorts parts items front done now name bytes at next is number =
    let x : List ℕ × List ℕ = (name, bytes) in
    let rest = drop (suc done) items in
    let more : drop done items ≡ x ∷ rest = drop_more items done x next.here
    ∙ ap (λ p. p ∷ drop (done + 1) items) (sym next.next) ∙ ap (λ n. x ∷ drop n items) (add-one done) in
    let named : name ≢ [] = next_named parts items done name bytes at next in
    let later : All (λ p. p.0 ≢ []) (x ∷ rest) = subst (All (λ p. p.0 ≢ [])) more at.named in
    let front_table : take now (front ++ rest) ≡ front = take_at front rest now number in
    let left : drop now (front ++ rest) ≡ rest = drop_at front rest now number in
    record {
      table = ap (λ held. with_parts held (drop now (front ++ rest))) (front_table ∙ is)
          ∙ ap (with_parts (with_name (take done items) name bytes)) left ∙ sym (ap (with_parts (take done items)) more)
          ∙ at.table;
      listed = subst (λ held. IsListed (listing_of held)) (sym (front_table ∙ is))
          (listed-with_name (take done items) name bytes named next.fits at.listed);
      named = subst (All (λ p. p.0 ≢ [])) (sym left) (λ k d below. later (suc k) d (omega (arith, below)));
      within = omega (arith, length-append front rest, number);
    }

-- a part in place of an earlier one
pub sorts_there : (parts items : Held) (done place : ℕ) (name bytes : List ℕ) → Sorting parts items done
    → NextFits items done name bytes → StandsAt (take done items) name place
    → Sorting parts (set (remove items done) place (name, bytes)) done
sorts_there parts items done place name bytes at next stands =
    rw (set-append_left (take done items) (drop (suc done) items) place (name, bytes) stands.within)
    (sorts parts items (set (take done items) place (name, bytes)) done done name bytes at next
    (sym (with-stands (take done items) name bytes place stands))
    (length-set (take done items) place (name, bytes) ∙ length-take-le done items at.within))

-- a part with a name of its own
pub sorts_new : (parts items : Held) (done place : ℕ) (name bytes : List ℕ) → Sorting parts items done
    → NextFits items done name bytes → GoesAt (take done items) name place
    → Sorting parts (insert (remove items done) place (name, bytes)) (done + 1)
sorts_new parts items done place name bytes at next goes =
    rw (insert-append_left (take done items) (drop (suc done) items) place (name, bytes) goes.within)
    (sorts parts items (insert (take done items) place (name, bytes)) done (done + 1) name bytes at next
    (sym (with-goes (take done items) name bytes place goes))
    (length-insert (take done items) place (name, bytes) goes.within
    ∙ ap (λ n. n + 1) (length-take-le done items at.within)))
