-- Names that were seen, and whether one stands twice.
use Rattle.std.proofs.Common.{◌≡◌, ◌<◌, ◌≤◌, ◌+◌, ℕ, Bool, Bor, true, false, cond, List, [], map, length, take, get_or}
use Rattle.std.proofs.Common.{sym, arith}
use Rattle.std.specs.List.{IsDistinct, list_any}
use Rattle.std.specs.Str.{bytes_eq}
use Rattle.std.proofs.lemmas.List.{get_or-map, length-map}
use Rattle.gob_bytes.proofs.Once as once

abbrev pub Name : Type 0
Name = Bor (List ℕ)

-- what is read past the end of a list of names
abbrev pub no_name : Name
no_name = record { ref_ptr = (0, 0); now = [] }

abbrev pub texts : List Name → List (List ℕ)
texts names = map (λ (n : Name). n.now) names

within : (names : List Name) (i : ℕ) → i < length names → i < length (texts names)
within names i below = omega (arith, below, length-map names (λ (n : Name). n.now))

text_at : (names : List Name) (i : ℕ) → i < length names → (get_or names i no_name).now ≡ get_or (texts names) i []
text_at names i below = sym (get_or-map (λ (n : Name). n.now) names i no_name [] below)

pub apart_more : (names : List Name) (i : ℕ) → i < length names → IsDistinct bytes_eq (take i (texts names))
    → list_any (bytes_eq (get_or names i no_name).now) (take i (texts names)) ≡ false
    → IsDistinct bytes_eq (take (i + 1) (texts names))
apart_more names i below apart new =
    once.apart_more (texts names) i _ [] (within names i below) (text_at names i below) apart new

pub seen_more : (names : List Name) (i : ℕ) (q : List ℕ) (before now : Bool) → i < length names
    → before ≡ list_any (bytes_eq q) (take i (texts names))
    → now ≡ cond (bytes_eq (get_or names i no_name).now q) true before
    → now ≡ list_any (bytes_eq q) (take (i + 1) (texts names))
seen_more names i q before now below is put =
    once.seen_more (texts names) i _ [] q before now (within names i below) (text_at names i below) is put

-- a name that was seen before stands twice
pub stands_twice : (names : List Name) (i : ℕ) → i < length names
    → list_any (bytes_eq (get_or names i no_name).now) (take i (texts names)) ≡ true → IsDistinct bytes_eq (texts names)
    → ⊥
stands_twice names i below hit apart =
    once.stands_twice (texts names) i _ [] (within names i below) (text_at names i below) hit apart

pub all_seen : (names : List Name) (i : ℕ) → length names ≤ i → IsDistinct bytes_eq (take i (texts names))
    → IsDistinct bytes_eq (texts names)
all_seen names i all apart =
    once.all_seen (texts names) i (omega (arith, all, length-map names (λ (n : Name). n.now))) apart
