-- What a listing says of what a source holds.
use Rattle.std.proofs.Common.{◌≡◌, ◌≢◌, ℕ, Bool, true, false, cond, ◌&&◌, List, [], ◌∷◌, ◌++◌, All, length, map, take}
use Rattle.std.proofs.Common.{Some, None, is_some, unwrap_or, refl, sym, ap, subst, ◌∙◌, IfSome}
use Rattle.std.specs.declared.option.Option.{Option}
use Rattle.std.specs.List.{AllByRecursion, Contains, filter}
use Rattle.std.specs.Str.{bytes_eq}
use Rattle.std.proofs.lemmas.List.Elements.{All-contains_itself, All-from_recursion, All-head, All-tail, All-weaker}
use Rattle.std.proofs.lemmas.List.Elements.{recursion_from_All}
use Rattle.gob_bytes.specs.Tables.{IsInByteOrder, Table, at_name, names_of}
use Rattle.gob_bytes.proofs.Tables.{at_from_member, same_name}
use Rattle.gob_device.specs.Supply.{Held, IsEntry, IsListed, Supply, bytes_at, listing_of}
use Rattle.gob_plan.specs.declared.plan.Limits.{Limits}
use Rattle.gob_plan.specs.declared.units.Unit.{Unit as WorkUnit}
use Rattle.gob_ledger.specs.Marks.{Marks, Span}
use Rattle.gob_ledger.specs.Units.{all_cuts, cuts_of, first_shrunk, is_kept, is_listed, owed_unit, owed_units, too_long}
use Rattle.gob_ledger.specs.Units.{units_of_parts}
use Rattle.gob_ledger.proofs.Cutting.{rising_filter}
use Rattle.gob_cut.specs.declared.fault.CutFault.{CutFault}
use Rattle.gob_cut.specs.declared.fault.CutFault.TheVariants as fault
use Rattle.gob_cut.specs.declared.fault.Stop.{Stop}
use Rattle.gob_cut.specs.declared.fault.Stop.TheVariants.{Failed, Memory}
use Rattle.gob_cut.specs.Faults.{IsShrunk, ShrunkIsTold, cut_fault_of}
use Rattle.gob_cut.specs.Rounds.{AreSized, all_cuts_of, all_rounds, cuts_from, owed_unit_of, owed_units_of}
use Rattle.gob_cut.specs.Units.{kept_of}

pub names_listed : (held : Held) → names_of (listing_of held) ≡ names_of held
names_listed [] = refl
names_listed (e ∷ held) = ap (λ ns. e.0 ∷ ns) (names_listed held)

-- what is found at each name of a part of the table
abbrev Known : Held → Held → Type 0
Known all held = AllByRecursion (λ e. bytes_at all e.0 ≡ e.1) held

known : (held : Held) → IsListed (listing_of held) → Known held held
known held listed =
    let rising : IsInByteOrder (names_of held) = subst IsInByteOrder (names_listed held) listed.rising in
    recursion_from_All (λ e. bytes_at held e.0 ≡ e.1) held (All-weaker (Contains held) (λ e. bytes_at held e.0 ≡ e.1)
    (λ (e : List ℕ × List ℕ) (within : Contains held e). ap (λ o. unwrap_or o [])
    (at_from_member held e.0 e.1 rising within)) held (All-contains_itself held))

sized_part : (limits : Limits) (all held : Held) → Known all held
    → AllByRecursion (λ e. e.1 ≡ length (bytes_at all e.0)) (kept_of limits (listing_of held))
sized_part limits all [] known = tt
sized_part limits all (e ∷ held) known = elim (is_kept limits e.0) as
    (λ b. AllByRecursion (λ d. d.1 ≡ length (bytes_at all d.0))
    (cond b ((e.0, length e.1) ∷ kept_of limits (listing_of held)) (kept_of limits (listing_of held)))) [
      | true ↦ (ap length (sym known.0), sized_part limits all held known.1)
      | false ↦ sized_part limits all held known.1
    ]

pub kept_sized : (limits : Limits) (held : Held) → IsListed (listing_of held)
    → AreSized held (kept_of limits (listing_of held))
kept_sized limits held listed = All-from_recursion (λ e. e.1 ≡ length (bytes_at held e.0))
    (kept_of limits (listing_of held)) (sized_part limits held held (known held listed))

cuts_known : (limits : Limits) (parts : Table Marks) (all held : Held) → Known all held
    → all_cuts_of all parts limits.max_bytes (kept_of limits (listing_of held)) ≡ map (cuts_of parts limits)
    (filter (λ e. is_kept limits e.0) held)
unfolding cuts_from
cuts_known limits parts all [] known = refl
cuts_known limits parts all (e ∷ held) known = elim (is_kept limits e.0) as
    (λ b. all_cuts_of all parts limits.max_bytes (cond b ((e.0, length e.1) ∷ kept_of limits (listing_of held))
    (kept_of limits (listing_of held)))
    ≡ map (cuts_of parts limits) (cond b (e ∷ filter (λ d. is_kept limits d.0) held)
    (filter (λ d. is_kept limits d.0) held))) [
      | true ↦ λ i. cuts_of parts limits (e.0, known.0 i) ∷ cuts_known limits parts all held known.1 i
      | false ↦ cuts_known limits parts all held known.1
    ]

pub cuts_told : (limits : Limits) (parts : Table Marks) (held : Held) → IsListed (listing_of held)
    → all_cuts_of held parts limits.max_bytes (kept_of limits (listing_of held)) ≡ all_cuts parts held limits
cuts_told limits parts held listed = cuts_known limits parts held held (known held listed)

-- ---- the partitions that are listed

at_kept : (limits : Limits) (held : Held) (q : List ℕ) → is_some (at_name (kept_of limits (listing_of held)) q) ≡
    is_listed held limits q
at_kept limits [] q = refl
at_kept limits (e ∷ held) q = cases (is_kept limits e.0) (bytes_eq q e.0) refl refl (at_kept limits held q)
  where
    later : List (List ℕ × ℕ)
    later = kept_of limits (listing_of held)

    left : (b c : Bool) → is_kept limits e.0 ≡ b → bytes_eq q e.0 ≡ c
        → is_some (at_name (kept_of limits (listing_of (e ∷ held))) q) ≡ is_some
        (at_name (cond b ((e.0, length e.1) ∷ later) later) q)
    left b c kept same = ap (λ v. is_some (at_name (cond v ((e.0, length e.1) ∷ later) later) q)) kept

    right : (c : Bool) → bytes_eq q e.0 ≡ c → is_listed (e ∷ held) limits q ≡ is_some
        (cond c (Some e.1) (at_name held q)) && is_kept limits q
    right c same = ap (λ v. is_some (cond v (Some e.1) (at_name held q)) && is_kept limits q) same

    both_false : (b : Bool) → b && false ≡ false
    both_false true = refl
    both_false false = refl

    cases : (b c : Bool) → is_kept limits e.0 ≡ b → bytes_eq q e.0 ≡ c
        → is_some (at_name later q) ≡ is_listed held limits q
        → is_some (at_name (kept_of limits (listing_of (e ∷ held))) q) ≡ is_listed (e ∷ held) limits q
    cases true true kept same rest =
        left true true kept same ∙ (ap (λ v. is_some (cond v (Some (length e.1)) (at_name later q))) same
        ∙ sym (right true same ∙ (ap (is_kept limits) (same_name q e.0 same) ∙ kept)))
    cases true false kept same rest =
        left true false kept same ∙ (ap (λ v. is_some (cond v (Some (length e.1)) (at_name later q))) same
        ∙ (rest ∙ sym (right false same)))
    cases false true kept same rest =
        left false true kept same ∙ (rest ∙ (ap (λ v. is_some (at_name held q) && v)
        (ap (is_kept limits) (same_name q e.0 same) ∙ kept)
        ∙ (both_false (is_some (at_name held q)) ∙ sym (right true same
        ∙ (ap (is_kept limits) (same_name q e.0 same) ∙ kept)))))
    cases false false kept same rest = left false false kept same ∙ (rest ∙ sym (right false same))

owed_same : (limits : Limits) (held : Held) (part : List ℕ) (ss : List Span)
    → map (owed_unit_of (kept_of limits (listing_of held)) part) ss ≡ map (owed_unit held limits part) ss
owed_same limits held part [] = refl
owed_same limits held part (s ∷ ss) =
    λ i. record { part = part; lo = s.lo; hi = s.hi; fresh = false; listed = at_kept limits held part i } ∷ owed_same
    limits held part ss i

pub owed_told : (limits : Limits) (parts : Table Marks) (held : Held)
    → owed_units_of (kept_of limits (listing_of held)) parts ≡ owed_units parts held limits
owed_told limits [] held = refl
owed_told limits (e ∷ parts) held = λ i. owed_same limits held e.0 e.1.owed i ++ owed_told limits parts held i

pub units_told : (limits : Limits) (parts : Table Marks) (held : Held) → IsListed (listing_of held)
    → owed_units_of (kept_of limits (listing_of held)) parts ++ take limits.max_new_units
    (all_rounds (all_cuts_of held parts limits.max_bytes (kept_of limits (listing_of held))))
    ≡ units_of_parts parts held limits
unfolding units_of_parts all_rounds
units_told limits parts held listed =
    λ i. owed_told limits parts held i ++ take limits.max_new_units (all_rounds (cuts_told limits parts held listed i))

-- ---- names

pub kept_rising : (limits : Limits) (listing : Table ℕ) → IsListed listing
    → IsInByteOrder (names_of (kept_of limits listing))
kept_rising limits listing listed = rising_filter (λ e. is_kept limits e.0) listing listed.rising

pub kept_named : (limits : Limits) (listing : Table ℕ) → IsListed listing → All (λ e. e.0 ≢ []) (kept_of limits listing)
kept_named limits listing listed = All-from_recursion (λ e. e.0 ≢ []) (kept_of limits listing)
    (each listing listed.entries)
  where
    each : (es : Table ℕ) → All (λ e. IsEntry e.0 e.1) es → AllByRecursion (λ e. e.0 ≢ []) (kept_of limits es)
    each [] all = tt
    each (e ∷ es) all = elim (is_kept limits e.0) as (λ b. AllByRecursion (λ d. d.0 ≢ [])
        (cond b (e ∷ kept_of limits es) (kept_of limits es))) [
          | true ↦ (
            (All-head (λ (d : List ℕ × ℕ). IsEntry d.0 d.1) e es all).named,
            each es (All-tail (λ (d : List ℕ × ℕ). IsEntry d.0 d.1) e es all),
          )
          | false ↦ each es (All-tail (λ (d : List ℕ × ℕ). IsEntry d.0 d.1) e es all)
        ]

pub too_long_told : (limits : Limits) (held : Held) → too_long limits (names_of (listing_of held)) ≡ too_long limits
    (names_of held)
too_long_told limits held = ap (too_long limits) (names_listed held)

-- ---- a source that may tell

pub told_units : (o q : Option Supply) (limits : Limits) (parts : Table Marks) (listing kept : Table ℕ)
    (units : List WorkUnit) → q ≡ o → IfSome o (λ s. listing ≡ listing_of s.held)
    → IsListed listing → kept ≡ kept_of limits listing
    → IfSome q (λ s. AreSized s.held kept → units ≡ owed_units_of kept parts
    ++ take limits.max_new_units (all_rounds (all_cuts_of s.held parts limits.max_bytes kept)))
    → IfSome o (λ s. units ≡ units_of_parts parts s.held limits)
told_units o q limits parts listing kept units told lists listed is cut =
    cases o lists (subst (λ r. Cut r kept) told cut)
  where
    Cut : Option Supply → Table ℕ → Type 0
    Cut r k = IfSome r (λ s. AreSized s.held k → units ≡ owed_units_of k parts
        ++ take limits.max_new_units (all_rounds (all_cuts_of s.held parts limits.max_bytes k)))

    cases : (o : Option Supply) → IfSome o (λ s. listing ≡ listing_of s.held) → Cut o kept
        → IfSome o (λ s. units ≡ units_of_parts parts s.held limits)
    cases None lists cut = tt
    cases (Some s) lists cut =
        let there : IsListed (listing_of s.held) = subst IsListed lists listed in
        let whole : kept ≡ kept_of limits (listing_of s.held) = is ∙ ap (kept_of limits) lists in
        (subst (Cut (Some s)) whole cut) (kept_sized limits s.held there) ∙ units_told limits parts s.held there

pub told_names : (o : Option Supply) (limits : Limits) (listing : Table ℕ) (names : List (List ℕ))
    → IfSome o (λ s. listing ≡ listing_of s.held)
    → names ≡ too_long limits (names_of listing) → IfSome o (λ s. names ≡ too_long limits (names_of s.held))
told_names None limits listing names lists is = tt
told_names (Some s) limits listing names lists is = is ∙ (ap (λ (t : Table ℕ). too_long limits (names_of t)) lists
    ∙ too_long_told limits s.held)

pub told_unshrunk : (o : Option Supply) (parts : Table Marks) (listing : Table ℕ)
    → IfSome o (λ s. listing ≡ listing_of s.held) → first_shrunk parts listing ≡ None
    → IfSome o (λ s. first_shrunk parts (listing_of s.held) ≡ None)
told_unshrunk None parts listing lists none = tt
told_unshrunk (Some s) parts listing lists none = ap (first_shrunk parts) (sym lists) ∙ none

shrunk_told : (parts : Table Marks) (listing : Table ℕ) (f : CutFault) → IsShrunk parts listing f
    → ShrunkIsTold parts listing f
shrunk_told parts listing (fault.Shrunk part next size) is = is
shrunk_told parts listing fault.Failed is = tt
shrunk_told parts listing fault.Memory is = tt

pub told_shrunk : (o : Option Supply) (parts : Table Marks) (listing : Table ℕ) (f : CutFault)
    → IfSome o (λ s. listing ≡ listing_of s.held) → IsShrunk parts listing f
    → IfSome o (λ s. ShrunkIsTold parts (listing_of s.held) f)
told_shrunk None parts listing f lists is = tt
told_shrunk (Some s) parts listing f lists is = subst (λ (t : Table ℕ). ShrunkIsTold parts t f) lists
    (shrunk_told parts listing f is)

-- a fault that names no partition
pub other_fault : (o : Option Supply) (parts : Table Marks) (f : CutFault) (s : Stop) → f ≡ cut_fault_of s
    → IfSome o (λ t. ShrunkIsTold parts (listing_of t.held) f)
other_fault None parts f s is = tt
other_fault (Some t) parts f s is = subst (ShrunkIsTold parts (listing_of t.held)) (sym is) (either s)
  where
    either : (s : Stop) → ShrunkIsTold parts (listing_of t.held) (cut_fault_of s)
    either Failed = tt
    either Memory = tt

-- the names of what is held rise
pub told_rising : (o : Option Supply) (listing : Table ℕ) → IfSome o (λ s. listing ≡ listing_of s.held)
    → IsListed listing → IfSome o (λ s. IsInByteOrder (names_of s.held))
told_rising None listing lists listed = tt
told_rising (Some s) listing lists listed =
    subst IsInByteOrder (ap (λ (t : Table ℕ). names_of t) lists ∙ names_listed s.held) listed.rising
