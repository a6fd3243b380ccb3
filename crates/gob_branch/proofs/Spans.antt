-- Items in a buffer that grows.
use Rattle.std.proofs.Common.{◌≡◌, ℕ, zero, suc, get_or, ◌+◌, ◌-◌, ◌<◌, ◌≤◌, List, [], ◌∷◌, ◌++◌, length, take, drop}
use Rattle.std.proofs.Common.{refl, sym, ap, ap₂, ◌∙◌, subst, arith, Some, Option}
use Rattle.std.proofs.lemmas.List.{take_all, take-append-le, drop-append-le, length-drop, length-append, append_assoc}
use Rattle.std.specs.Str.{IsUtf8}
use Rattle.std.specs.List.{slice_get}
use Rattle.gob_meaning.specs.Items.{RowMade}
use Rattle.gob_meaning.specs.Fold.{kill_or}
use Rattle.gob_branch.specs.declared.items.ItemEnd.{ItemEnd}
use Rattle.gob_branch.specs.declared.items.ItemEnd.TheVariants.{Written, Error, Killed}
use Rattle.gob_branch.specs.declared.items.Span.{Span}
use Rattle.gob_branch.specs.ItemSpans.{bytes_between, end_made, row_made, span_made, rows_made, ItemIsWithin}
use Rattle.gob_branch.specs.ItemSpans.{ItemsAreWithin}

-- what stands between two places stays, whatever comes behind
pub bytes_between-append : (from to : ℕ) (xs ys : List ℕ) → from ≤ to → to ≤ length xs →
    bytes_between from to (xs ++ ys) ≡ bytes_between from to xs
bytes_between-append from to xs ys low high =
    let within : to - from ≤ length (drop from xs) =
    subst (λ n. to - from ≤ n) (sym (length-drop from xs)) (omega arith) in
    ap (take (to - from)) (drop-append-le from xs ys (omega arith))
    ∙ take-append-le (to - from) (drop from xs) ys within

-- what was added last
pub between_last : (xs ys : List ℕ) → bytes_between (length xs) (length (xs ++ ys)) (xs ++ ys) ≡ ys
between_last xs ys = ap₂ take (ap (λ n. n - length xs) (length-append xs ys) ∙ omega arith) (drop-length xs ys)
    ∙ take_all (length ys) ys (omega arith)
  where
    drop-length : (a b : List ℕ) → drop (length a) (a ++ b) ≡ b
    drop-length [] b = refl
    drop-length (x ∷ a) b = drop-length a b

pub within-append : (xs ys : List ℕ) (s : Span) → ItemIsWithin xs s → ItemIsWithin (xs ++ ys) s
within-append xs ys s w = record {
  place = w.place;
  placed = w.placed;
  end = subst (λ n. s.record_end ≤ n) (sym (length-append xs ys)) (omega arith);
  text = subst IsUtf8 (sym (bytes_between-append s.place_start s.place_end xs ys w.place (omega arith))) w.text;
}

pub span_made-append : (xs ys : List ℕ) (s : Span) → ItemIsWithin xs s → span_made (xs ++ ys) s ≡ span_made xs s
span_made-append xs ys s w = ap₂ (λ p r. row_made s.branch p s.optional s.end r)
    (bytes_between-append s.place_start s.place_end xs ys w.place (omega arith))
    (bytes_between-append s.place_end s.record_end xs ys w.placed w.end)

-- one more item behind the others, whose bytes are at the buffer's end
pub record Pushed (xs ys : List ℕ) (ss : List Span) (s : Span) : Type 0 where
  pub within : ItemsAreWithin (xs ++ ys) (ss ++ s ∷ [])
  pub made : rows_made (xs ++ ys) (ss ++ s ∷ []) ≡ rows_made xs ss ++ span_made (xs ++ ys) s ∷ []

pub pushed : (xs ys : List ℕ) (ss : List Span) (s : Span) → ItemsAreWithin xs ss → ItemIsWithin (xs ++ ys) s
    → Pushed xs ys ss s
pushed xs ys [] s all w = record { within = (w, tt); made = refl }
pushed xs ys (t ∷ ts) s all w = let p = pushed xs ys ts s all.1 w in record {
  within = (within-append xs ys t all.0, p.within);
  made = ap₂ (λ r rs. r ∷ rs) (span_made-append xs ys t all.0) p.made;
}

-- the last but one part of a buffer that grew by two
pub between_middle : (xs ys zs : List ℕ) → bytes_between (length xs) (length (xs ++ ys)) ((xs ++ ys) ++ zs) ≡ ys
between_middle xs ys zs =
    let up : length xs ≤ length (xs ++ ys) = subst (λ n. length xs ≤ n) (sym (length-append xs ys)) (omega arith) in
    bytes_between-append (length xs) (length (xs ++ ys)) (xs ++ ys) zs up (omega arith) ∙ between_last xs ys

-- the item of a place and a record was put behind the others
pub record PushedItem (xs place bytes : List ℕ) (ss : List Span) (s : Span) (all : List ℕ) (spans : List Span) : Type 0
  where
    pub within : ItemsAreWithin all spans
    pub made : rows_made all spans ≡ rows_made xs ss ++ row_made s.branch place s.optional s.end bytes ∷ []

pub last_within : (xs place bytes : List ℕ) (s : Span) → IsUtf8 place → s.place_start ≡ length xs
    → s.place_end ≡ length (xs ++ place) → s.record_end ≡ length ((xs ++ place) ++ bytes)
    → ItemIsWithin ((xs ++ place) ++ bytes) s
last_within xs place bytes s text starts ends all =
    let first : length (xs ++ place) ≡ length xs + length place = length-append xs place in
    let second : length ((xs ++ place) ++ bytes) ≡ length (xs ++ place) + length bytes =
    length-append (xs ++ place) bytes in
    record {
      place = omega arith;
      placed = omega arith;
      end = omega arith;
      text = subst IsUtf8 (sym (ap₂ (λ i j. bytes_between i j ((xs ++ place) ++ bytes)) starts ends
          ∙ between_middle xs place bytes)) text;
    }

pub last_made : (xs place bytes : List ℕ) (s : Span) → s.place_start ≡ length xs
    → s.place_end ≡ length (xs ++ place) → s.record_end ≡ length ((xs ++ place) ++ bytes)
    → span_made ((xs ++ place) ++ bytes) s ≡ row_made s.branch place s.optional s.end bytes
last_made xs place bytes s starts ends all = ap₂ (λ p r. row_made s.branch p s.optional s.end r)
    (ap₂ (λ i j. bytes_between i j ((xs ++ place) ++ bytes)) starts ends ∙ between_middle xs place bytes)
    (ap₂ (λ i j. bytes_between i j ((xs ++ place) ++ bytes)) ends all ∙ between_last (xs ++ place) bytes)

pub pushed_item : (xs place bytes all : List ℕ) (ss spans : List Span) (s : Span) → ItemsAreWithin xs ss → IsUtf8 place
    → all ≡ (xs ++ place) ++ bytes → spans ≡ ss ++ s ∷ [] → s.place_start ≡ length xs
    → s.place_end ≡ length (xs ++ place) → s.record_end ≡ length ((xs ++ place) ++ bytes)
    → PushedItem xs place bytes ss s all spans
pushed_item xs place bytes all ss spans s kept text is_all is_spans starts ends ended =
    let w = last_within xs place bytes s text starts ends ended in
    let grown : (xs ++ place) ++ bytes ≡ xs ++ (place ++ bytes) = append_assoc xs place bytes in
    let p = pushed xs (place ++ bytes) ss s kept (subst (λ l. ItemIsWithin l s) grown w) in
    let now : all ≡ xs ++ (place ++ bytes) = is_all ∙ grown in
    record {
      within = subst (λ l. ItemsAreWithin l spans) (sym now)
          (subst (ItemsAreWithin (xs ++ (place ++ bytes))) (sym is_spans) p.within);
      made = ap₂ rows_made now is_spans ∙ p.made
          ∙ ap (λ r. rows_made xs ss ++ r ∷ []) (ap (λ l. span_made l s) (sym grown)
          ∙ last_made xs place bytes s starts ends ended);
    }

-- ---- one of the items

pub rows_length : (bytes : List ℕ) (ss : List Span) → length (rows_made bytes ss) ≡ length ss
rows_length bytes [] = refl
rows_length bytes (s ∷ ss) = ap suc (rows_length bytes ss)

pub within_at : (bytes : List ℕ) (ss : List Span) (i : ℕ) (s : Span) → ItemsAreWithin bytes ss → i < length ss
    → s ≡ get_or ss i s → ItemIsWithin bytes s
within_at bytes [] i s all lt e = absurd (omega arith)
within_at bytes (t ∷ ts) zero s all lt e = subst (ItemIsWithin bytes) (sym e) all.0
within_at bytes (t ∷ ts) (suc i) s all lt e = within_at bytes ts i s all.1 (omega arith) e

pub within_of : (bytes shown : List ℕ) (ss : List Span) (rows : List RowMade) (i : ℕ) (s : Span)
    → rows_made bytes ss ≡ rows
    → ItemsAreWithin bytes ss → shown ≡ bytes → i < length rows → s ≡ get_or ss i s → ItemIsWithin shown s
within_of bytes shown ss rows i s made all same lt e = subst (λ l. ItemIsWithin l s) (sym same)
    (within_at bytes ss i s all
    (subst (λ n. i < n) (rows_length bytes ss) (subst (λ l. i < length l) (sym made) lt)) e)

pub made_at : (bytes : List ℕ) (ss : List Span) (i : ℕ) (s : Span) → i < length ss → s ≡ get_or ss i s
    → slice_get (rows_made bytes ss) i ≡ Some (span_made bytes s)
made_at bytes [] i s lt e = absurd (omega arith)
made_at bytes (t ∷ ts) zero s lt e = ap (λ x. Some (span_made bytes x)) (sym e)
made_at bytes (t ∷ ts) (suc i) s lt e = made_at bytes ts i s (omega arith) e

-- ---- the first that is killed

pub rows_from : (bytes : List ℕ) (ss : List Span) (i : ℕ) (d : Span) → i < length ss
    → drop i (rows_made bytes ss) ≡ span_made bytes (get_or ss i d) ∷ drop (suc i) (rows_made bytes ss)
rows_from bytes [] i d lt = absurd (omega arith)
rows_from bytes (t ∷ ts) zero d lt = refl
rows_from bytes (t ∷ ts) (suc i) d lt = rows_from bytes ts i d (omega arith)

pub is_killed : (bytes : List ℕ) (s : Span) (policy : ℕ) (later : Option (ℕ × ℕ)) → s.end ≡ Killed policy
    → kill_or s.branch (span_made bytes s).end later ≡ Some (s.branch, policy)
is_killed bytes s policy later e =
    ap (λ end. kill_or s.branch (end_made end (bytes_between s.place_end s.record_end bytes)) later) e

pub not_killed : (branch : ℕ) (end : ItemEnd) (bytes : List ℕ) (later : Option (ℕ × ℕ))
    → ((policy : ℕ) → end ≡ Killed policy → ⊥) → kill_or branch (end_made end bytes) later ≡ later
not_killed branch Written bytes later other = refl
not_killed branch Error bytes later other = refl
not_killed branch (Killed policy) bytes later other = absurd (other policy refl)

-- ---- the first so many

pub within_take : (bytes : List ℕ) (n : ℕ) (ss : List Span) → ItemsAreWithin bytes ss → ItemsAreWithin bytes (take n ss)
within_take bytes zero ss all = tt
within_take bytes (suc n) [] all = tt
within_take bytes (suc n) (s ∷ ss) all = (all.0, within_take bytes n ss all.1)
