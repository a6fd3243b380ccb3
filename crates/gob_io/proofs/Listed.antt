-- What is held keeps the form of a listing when a partition is put.
use Rattle.std.proofs.Common.{◌≡◌, ◌≢◌, ℕ, ◌-◌, ◌^◌, ◌≤◌, List, [], ◌∷◌, length, refl, sym, ap, subst, Ok, Err}
use Rattle.std.proofs.lemmas.List.Elements.{All-from_recursion, recursion_from_All}
use Rattle.std.specs.List.{AllByRecursion}
use Rattle.std.specs.Result.{OnOk, OnErr}
use Rattle.std.specs.declared.result.Result.{Result}
use Rattle.std.specs.declared.cmp.Ordering.{Ordering}
use Rattle.std.specs.declared.cmp.Ordering.TheVariants.{Less, Equal, Greater}
use Rattle.gob_bytes.specs.Tables.{name_cmp, names_of, with_name, IsInByteOrder}
use Rattle.gob_bytes.proofs.Tables.{rising-with_name, rising_tail}
use Rattle.gob_device.specs.Supply.{Held, IsEntry, IsListed, listing_of}
use Rattle.gob_io.specs.Listing.{IsBelow}

pub names-listing : (held : Held) → names_of (listing_of held) ≡ names_of held
names-listing [] = refl
names-listing (e ∷ es) = ap (λ names. e.0 ∷ names) (names-listing es)

-- names that are held rise
pub rising_held : (held : Held) → IsListed (listing_of held) → IsInByteOrder (names_of held)
rising_held held listed = subst IsInByteOrder (names-listing held) listed.rising

entries-with : (held : Held) (name bytes : List ℕ) → IsEntry name (length bytes)
    → AllByRecursion (λ e. IsEntry e.0 e.1) (listing_of held)
    → AllByRecursion (λ e. IsEntry e.0 e.1) (listing_of (with_name held name bytes))
entries-with [] name bytes entry entries = (entry, tt)
entries-with (e ∷ es) name bytes entry entries = cases (name_cmp name e.0) refl
    (entries-with es name bytes entry entries.1)
  where
    cases : (o : Ordering) → name_cmp name e.0 ≡ o → AllByRecursion (λ f. IsEntry f.0 f.1)
        (listing_of (with_name es name bytes)) → AllByRecursion (λ f. IsEntry f.0 f.1)
        (listing_of (with_name (e ∷ es) name bytes))
    cases Less is later = rw is (entry, entries)
    cases Equal is later = rw is (entry, entries.1)
    cases Greater is later = rw is (entries.0, later)

pub listed-with_name : (held : Held) (name bytes : List ℕ) → name ≢ [] → length bytes ≤ 2 ^ 63 - 1
    → IsListed (listing_of held) → IsListed (listing_of (with_name held name bytes))
listed-with_name held name bytes named fits listed = record {
  rising = subst IsInByteOrder (sym (names-listing (with_name held name bytes)))
      (rising-with_name held name bytes (rising_held held listed));
  entries = All-from_recursion (λ e. IsEntry e.0 e.1) (listing_of (with_name held name bytes))
      (entries-with held name bytes (record { named = named; fits = fits })
      (recursion_from_All (λ e. IsEntry e.0 e.1) (listing_of held) listed.entries));
}

-- a table that a call left as it was or put something into, both in the form of a listing
pub either_listed : {T E : Type 0} (r : Result T E) (now put before : Held) → OnOk r (now ≡ put)
    → OnErr r (now ≡ before) → IsListed (listing_of put) → IsListed (listing_of before) → IsListed (listing_of now)
either_listed (Ok x) now put before ok err p b = subst (λ held. IsListed (listing_of held)) (sym ok) p
either_listed (Err e) now put before ok err p b = subst (λ held. IsListed (listing_of held)) (sym err) b

-- an entry before a listing
pub listed_before : (e : List ℕ × ℕ) (es : List (List ℕ × ℕ)) → IsEntry e.0 e.1 → IsBelow e.0 (names_of es)
    → IsListed es → IsListed (e ∷ es)
listed_before e es entry below listed = record {
  rising = rises es below listed.rising;
  entries = All-from_recursion (λ f. IsEntry f.0 f.1) (e ∷ es)
      (entry, recursion_from_All (λ f. IsEntry f.0 f.1) es listed.entries);
}
  where
    rises : (fs : List (List ℕ × ℕ)) → IsBelow e.0 (names_of fs) → IsInByteOrder (names_of fs)
        → IsInByteOrder (e.0 ∷ names_of fs)
    rises [] below rising = tt
    rises (f ∷ fs) below rising = (below, rising)

pub listed_behind : (e : List ℕ × ℕ) (es : List (List ℕ × ℕ)) → IsListed (e ∷ es)
    → (IsEntry e.0 e.1 × IsBelow e.0 (names_of es)) × IsListed es
listed_behind e es listed =
    let entries : IsEntry e.0 e.1 × AllByRecursion (λ f. IsEntry f.0 f.1) es =
    recursion_from_All (λ f. IsEntry f.0 f.1) (e ∷ es) listed.entries in (
      (entries.0, below es listed.rising),
      record {
        rising = rising_tail e.0 (names_of es) listed.rising;
        entries =
            All-from_recursion (λ f. IsEntry f.0 f.1) es entries.1;
      },
    )
  where
    below : (fs : List (List ℕ × ℕ)) → IsInByteOrder (e.0 ∷ names_of fs) → IsBelow e.0 (names_of fs)
    below [] rising = tt
    below (f ∷ fs) rising = rising.0
