-- The texts of partitions: which tables they make.
use Rattle.std.proofs.Common.{◌≡◌, ℕ, ◌<◌, Bool, true, false, List, [], ◌∷◌, ◌++◌, refl}
use Rattle.std.proofs.Common.{sym, ap, subst, ◌∙◌, Some, None, append_assoc, arith}
use Rattle.std.proofs.Common.{codes}
use Rattle.std.specs.declared.option.Option.{Option}
use Rattle.std.specs.List.{flat_map}
use Rattle.std.proofs.lemmas.Bool.{true≢false}
use Rattle.gob_bytes.specs.Tables.{Table, names_of, IsInByteOrder}
use Rattle.gob_ledger.specs.Marks.{Marks}
use Rattle.gob_ledger.specs.Spelling.{Version, part_text, parts_text}
use Rattle.gob_text.specs.Words.{GoesOnAtAll, TakesText}
use Rattle.gob_state.specs.Reads.{ReadsSpelling}
use Rattle.gob_state.specs.Ranges.{AreMarks, NoRange, ranges_text}
use Rattle.gob_state.specs.Parts.{head_text, IsHead, part_rest, IsPart, AreParts, NoPart}
use Rattle.gob_state.proofs.Steps.{Pairing, behind_text, refused, passed, not_even}
use Rattle.gob_state.proofs.Along.{Along, OneMore, at_start, one_more, one_missing, all_read}
use Rattle.gob_state.proofs.SettingLemmas.{each_first, each_push}

-- ---- one partition

-- the marks end where the name's line says
abbrev pub EndAt : Version → ℕ → List ℕ × ℕ → Marks → Type 0
EndAt v n p m = AreMarks v n m × (m.next ≡ p.1) × (0 < p.1)

abbrev pub part_pairing : (v : Version) (n : ℕ) → Pairing head_text IsHead GoesOnAtAll (λ p m. ranges_text v m)
    (λ p m. EndAt v n p m) (part_rest v) (IsPart v n) NoRange
part_pairing v n = record {
  to = λ p m. (p.0, m);
  first = λ e. (e.0, e.1.next);
  second = λ e. e.1;
  whole = λ e. refl;
  spells = λ p m head ends. ap (λ k. head_text (p.0, k) ++ ranges_text v m) ends.1;
  fits = λ p m head ends. (head.0, ends.0, subst (λ k. 0 < k) (sym ends.1) ends.2);
  parts = λ e f. ((f.0, f.1.small), (f.1, refl, f.2));
  goes = λ p m after head ends g. tt;
}

-- ---- all partitions

-- a partition that may come behind these
abbrev pub IsNextPart : Version → ℕ → Table Marks → List ℕ × Marks → Type 0
IsNextPart v n es e = IsPart v n e × IsInByteOrder (names_of es ++ e.0 ∷ [])

pub SomeParts : Version → ℕ → List ℕ → List ℕ → Table Marks → Type 0
SomeParts v n old rest es = Along (part_text v) (AreParts v n) (AreParts v n) NoPart old rest es

pub order_front : (es : Table Marks) (z : List ℕ × Marks) (zs : Table Marks) → IsInByteOrder (names_of (es ++ z ∷ zs))
    → IsInByteOrder (names_of es ++ z.0 ∷ [])
order_front [] z zs order = tt
order_front (e ∷ []) z [] order = order
order_front (e ∷ []) z (y ∷ zs) order = (order.0, tt)
order_front (e ∷ d ∷ es) z zs order = (order.0, order_front (d ∷ es) z zs order.1)

pub names_push : (es : Table Marks) (e : List ℕ × Marks) → names_of (es ++ e ∷ []) ≡ names_of es ++ e.0 ∷ []
names_push [] e = refl
names_push (d ∷ es) e = ap (λ (ns : List (List ℕ)). d.0 ∷ ns) (names_push es e)

part_spelled : (v : Version) (e : List ℕ × Marks) → part_text v e ≡ codes "partition" ++ part_rest v e
part_spelled v e = refl

no_range_at_part : (v : Version) (zs : Table Marks) (after : List ℕ) → NoPart after
    → NoRange (flat_map (part_text v) zs ++ after)
no_range_at_part v [] after g = g.no_range
no_range_at_part v (z ∷ zs) after g = record {
  no_done = λ x e. let n : ◌≡◌ {A = ℕ} 112 100 = cc in absurd (omega (arith, n));
  no_open = λ x e. let n : ◌≡◌ {A = ℕ} 112 111 = cc in absurd (omega (arith, n));
}

one_more_part : (v : Version) (n : ℕ) (rest mid : List ℕ) (es : Table Marks) → rest ≡ codes "partition" ++ mid
    → OneMore (part_text v) (IsNextPart v n es) NoRange (AreParts v n) NoPart rest es
one_more_part v n rest mid es there = record {
  more = λ after w g e. g.no_part mid (sym e ∙ there);
  fits = λ z zs w. (each_first (IsPart v n) es z zs w.0, order_front es z zs w.1);
  goes = λ z zs after w g. no_range_at_part v zs after g;
}

pub no_part_yet : (v : Version) (n : ℕ) (old : List ℕ) → SomeParts v n old old []
unfolding SomeParts
no_part_yet v n old = at_start old (tt, tt)

-- the partition behind its word
whole_part : (v : Version) (n : ℕ) (rest mid new : List ℕ) (t : Bool) (o : Option (List ℕ × Marks))
    → TakesText (codes "partition") rest mid t → t ≡ true → ReadsSpelling (part_rest v) (IsPart v n) NoRange mid new o
    → ReadsSpelling (part_text v) (IsPart v n) NoRange rest new o
whole_part v n rest mid new t o text taken r = behind_text (codes "partition") rest mid new t o
    (part_spelled v) text taken r

pub next_part : (v : Version) (n : ℕ) (old rest mid new : List ℕ) (es : Table Marks) (e : List ℕ × Marks) (t : Bool)
    → SomeParts v n old rest es → TakesText (codes "partition") rest mid t → t ≡ true
    → ReadsSpelling (part_rest v) (IsPart v n) NoRange mid new (Some e) → IsInByteOrder (names_of es ++ e.0 ∷ [])
    → SomeParts v n old new (es ++ e ∷ [])
unfolding SomeParts
next_part v n old rest mid new es e t some text taken r order =
    one_more old rest new es e some (one_more_part v n rest mid es (text.spelled taken))
    (passed rest new e (whole_part v n rest mid new t (Some e) text taken r) (λ x h. h.0) (r.spelled.0, order))
    (each_push (IsPart v n) es e some.good.0 r.spelled.0, subst IsInByteOrder (sym (names_push es e)) order)

pub part_missing : (v : Version) (n : ℕ) (old rest mid any new : List ℕ) (es : Table Marks) (t : Bool)
    → SomeParts v n old rest es → TakesText (codes "partition") rest mid t → t ≡ true
    → ReadsSpelling (part_rest v) (IsPart v n) NoRange mid any None
    → ReadsSpelling (parts_text v) (AreParts v n) NoPart old new None
unfolding SomeParts
part_missing v n old rest mid any new es t some text taken r =
    one_missing old rest any new es None None some (one_more_part v n rest mid es (text.spelled taken))
    (not_even rest any any None None (whole_part v n rest mid any t None text taken r) (λ x h. h.0) refl refl) refl refl

pub part_out_of_order : (v : Version) (n : ℕ) (old rest mid any new : List ℕ) (es : Table Marks) (e : List ℕ × Marks)
    (t : Bool)
    → SomeParts v n old rest es → TakesText (codes "partition") rest mid t → t ≡ true
    → ReadsSpelling (part_rest v) (IsPart v n) NoRange mid any (Some e) → (IsInByteOrder (names_of es ++ e.0 ∷ []) → ⊥)
    → ReadsSpelling (parts_text v) (AreParts v n) NoPart old new None
unfolding SomeParts
part_out_of_order v n old rest mid any new es e t some text taken r never =
    one_missing old rest any new es None None some (one_more_part v n rest mid es (text.spelled taken))
    (refused rest any any e None (whole_part v n rest mid any t (Some e) text taken r) (λ x h. h.0)
    (λ h. never h.1) refl)
    refl refl

pub parts_read : (v : Version) (n : ℕ) (old rest new : List ℕ) (es : Table Marks) (t : Bool)
    → SomeParts v n old rest es → TakesText (codes "partition") rest new t → t ≡ false
    → ReadsSpelling (parts_text v) (AreParts v n) NoPart old new (Some es)
unfolding SomeParts
parts_read v n old rest new es t some text gone =
    subst (λ x. ReadsSpelling (parts_text v) (AreParts v n) NoPart old x (Some es)) (sym (text.unchanged gone))
    (all_read old rest es some some.good
    (λ z zs after w g e. true≢false (sym (text.read (part_rest v z ++ (flat_map (part_text v) zs ++ after))
    (e ∙ append_assoc (codes "partition") (part_rest v z) (flat_map (part_text v) zs ++ after))).0 ∙ gone)))
