-- The text of a change: which state it leads to.
use Rattle.std.proofs.Common.{◌≡◌, ◌⊎◌, inl, inr, ⊎_elim, ℕ, ◌+◌, ◌<◌, ◌≤◌, ◌^◌, Bool, true, false, List, [], ◌∷◌, ◌++◌}
use Rattle.std.proofs.Common.{drop, length, refl, sym, ap, subst, ◌∙◌, Some, None, append_assoc, codes, arith}
use Rattle.std.specs.declared.option.Option.{Option}
use Rattle.std.specs.List.{AllByRecursion, Contains}
use Rattle.std.proofs.lemmas.Bool.{true≢false}
use Rattle.std.proofs.lemmas.List.Elements.{recursion_from_All}
use Rattle.std.proofs.lemmas.Option.{same_Some}
use Rattle.gob_bytes.proofs.Tables.{at_from_member, member_from_at}
use Rattle.gob_bytes.specs.Tables.{Table, at_name}
use Rattle.gob_bytes.specs.Words.{numbered_line}
use Rattle.gob_plan.specs.declared.units.Counts.{Counts}
use Rattle.gob_ledger.specs.Marks.{Marks}
use Rattle.gob_ledger.specs.State.{State}
use Rattle.gob_ledger.specs.Spelling.{FitsVersion, IsKeptPipeline, Proper, Small, Version, version_1, version_2}
use Rattle.gob_ledger.specs.Spelling.{parts_text, totals_text, version_number}
use Rattle.gob_ledger.specs.Delta.{KeepsPipelines, LeadsTo, ReadsAsChange, changed_parts, delta_spelling, new_pipelines}
use Rattle.gob_ledger.proofs.Changes.{all_member}
use Rattle.gob_ledger.proofs.StateLines.{from_members}
use Rattle.gob_ledger.proofs.ReadingChange.{fits_after}
use Rattle.gob_state.proofs.FileLemmas.{no_branch_in_parts, no_part_at_end, proper_from, rest_of, code_of, version_back}
use Rattle.gob_state.proofs.Steps.{Pairing, both_read, first_missing, is_missing, is_there, no_more, not_even, passed}
use Rattle.gob_state.proofs.Steps.{refused, second_missing}
use Rattle.gob_state.specs.Counts.{AreTotals, NoBranch}
use Rattle.gob_state.specs.Files.{CountFits}
use Rattle.gob_state.specs.Parts.{IsPart, NoPart}
use Rattle.gob_state.specs.Reads.{ReadsSpelling}
use Rattle.gob_state.specs.Versions.{AnyVersion, version_line, version_of}
use Rattle.gob_state.specs.declared.version.Version.{Version as CodeVersion}
use Rattle.gob_state.specs.declared.version.Version.TheVariants.{First, Second}
use Rattle.gob_segments.proofs.Changed.{more_pipelines}
use Rattle.gob_text.specs.Words.{GoesOnAtAll, TakesText}
use Rattle.gob_segments.specs.Applied.{AreApart, AreParted, CountedAfter, IsNextRun, PartsAfter, PipelinesAfter}
use Rattle.gob_segments.specs.Applied.{ReadsAsNoChange, RestAfter, StayAlone, TotalsAfter, changed_table}
use Rattle.gob_segments.specs.Applied.{counted_text_over}
use Rattle.gob_segments.specs.Applied.{front_text, later_text, rest_text_over, state_with}

-- ---- versions

-- ---- the pairs

abbrev pub counted_pairing : (v : Version) (n least : ℕ) (t : Table Marks)
    → Pairing totals_text (TotalsAfter least) NoBranch (λ c u. parts_text v (changed_table t u))
    (λ c u. PartsAfter v n t u) (counted_text_over v t) (CountedAfter v n least t) NoPart
counted_pairing v n least t = record {
  to = λ c u. (c, u);
  first = λ z. z.0;
  second = λ z. z.1;
  whole = λ z. refl;
  spells = λ c u f g. refl;
  fits = λ c u f g. (f, g);
  parts = λ z f. f;
  goes = λ c u after f g h. no_branch_in_parts v (changed_table t u) after h;
}

-- pipelines of which a number can tell how many there are
abbrev pub SmallAfter : Version → State → List (List ℕ) → Type 0
SmallAfter v s qs = PipelinesAfter v s.pipelines qs × Small (length qs)

abbrev pub rest_pairing : (v : Version) (s : State)
    → Pairing (later_text v s.pipelines) (SmallAfter v s) GoesOnAtAll (λ qs z. counted_text_over v s.parts z)
    (λ qs z. CountedAfter v (length qs) (length s.totals.branches) s.parts z) (rest_text_over v s)
    (RestAfter v s) NoPart
rest_pairing v s = record {
  to = λ qs z. (qs, z);
  first = λ z. z.0;
  second = λ z. z.1;
  whole = λ z. refl;
  spells = λ qs z f g. refl;
  fits = λ qs z f g. (f, g);
  parts = λ z f. f;
  goes = λ qs z after f g h. tt;
}

abbrev pub run_pairing : (v : Version) (run : ℕ)
    → Pairing {X = CodeVersion} (version_line (codes "gobblin-delta")) (λ w. version_of w ≡ v) GoesOnAtAll
    (λ w n. numbered_line (codes "run") (n ∷ [])) (λ w n. IsNextRun run n) (front_text v) (IsNextRun run) GoesOnAtAll
run_pairing v run = record {
  to = λ w n. n;
  first = λ n. code_of v;
  second = λ n. n;
  whole = λ n. refl;
  spells = λ w n f g. ap (λ x. numbered_line (codes "gobblin-delta") (version_number x ∷ [])
      ++ numbered_line (codes "run") (n ∷ [])) (sym f);
  fits = λ w n f g. g;
  parts = λ n f. (version_back v, f);
  goes = λ w n after f g h. tt;
}

-- ---- a state that is proper

front_parted : (v : Version) (s : State) → Proper s → FitsVersion v s → AreParted v (length s.pipelines) s.parts
front_parted v s proper fits part m at =
    all_member (IsPart v (length s.pipelines)) s.parts (part, m) (rest_of v s (proper, fits)).1.1.1.0
    (member_from_at s.parts part m at)

-- its partitions, where more pipelines are known
parted_more : (v : Version) (n k : ℕ) (t : Table Marks) → n ≤ k → AreParted v n t → AreParted v k t
parted_more v n k t le parts part m at =
    let p = parts part m at in (
      p.0,
      record {
        tiled = p.1.tiled;
        small = p.1.small;
        indexed = λ d h. let i = p.1.indexed d h in (let below = i.0 in omega (arith, below, le), i.1);
      },
      p.2,
    )

more_length : (v : Version) (s : State) (qs : List (List ℕ)) → PipelinesAfter v s.pipelines qs
    → length s.pipelines ≤ length qs
more_length v s qs a = more_pipelines s.pipelines qs a.more

alone_fits : (v : Version) (s : State) (qs : List (List ℕ)) → PipelinesAfter v s.pipelines qs → FitsVersion v s
alone_fits version_1 s qs a = a.alone.0
alone_fits version_2 s qs a = tt

pub parted_after : (v : Version) (s : State) (qs : List (List ℕ)) → Proper s → PipelinesAfter v s.pipelines qs
    → AreParted v (length qs) s.parts
parted_after v s qs proper a = parted_more v (length s.pipelines) (length qs) s.parts (more_length v s qs a)
    (front_parted v s proper (alone_fits v s qs a))

-- ---- what a change holds, and the state that it leads to

abbrev pub rest_in : State → List (List ℕ) × (Counts × Table Marks)
rest_in t = (t.pipelines, (t.totals, t.parts))

counts_fit : (v : Version) (s : State) (qs : List (List ℕ)) → PipelinesAfter v s.pipelines qs → Small (length qs)
    → CountFits v (length qs)
counts_fit version_1 s qs a small = ap length a.alone.1 ∙ a.alone.0
counts_fit version_2 s qs a small = small

keeps_alone : (v : Version) (s t : State) → StayAlone v s.pipelines t.pipelines → KeepsPipelines v s t
keeps_alone version_1 s t a = a
keeps_alone version_2 s t a = tt

alone_kept : (v : Version) (s t : State) → KeepsPipelines v s t → StayAlone v s.pipelines t.pipelines
alone_kept version_1 s t a = a
alone_kept version_2 s t a = tt

pub leads_from : (v : Version) (s : State) (run : ℕ) (z : List (List ℕ) × (Counts × Table Marks)) → IsNextRun s.run run
    → RestAfter v s z → LeadsTo v s (state_with run z)
leads_from v s run z next f =
    let t : State = state_with run z in
    let parts = f.1.1 in
    let each = from_members (IsPart v (length z.0)) z.1.1 (λ e h.
    parts.parts e.0 e.1 (at_from_member z.1.1 e.0 e.1 parts.names h)) in
    record {
      follows = record {
        run = next.0;
        pipelines = f.0.0.more;
        branches = f.1.0.1;
        parts = parts.stay;
        marks = parts.follow;
      };
      proper = (proper_from v t next.1
          ((f.0.0.apart.0, counts_fit v s z.0 f.0.0 f.0.1, f.0.0.apart.1), (f.1.0.0, (each, parts.names)))).0;
      pipelines = keeps_alone v s t f.0.0.alone;
    }

pub rest_after : (v : Version) (s t : State) → LeadsTo v s t → IsNextRun s.run t.run × RestAfter v s (rest_in t)
rest_after v s t leads =
    let told = rest_of v t (leads.proper, fits_after v s t leads) in
    let follow = leads.follows in (
      (follow.run, leads.proper.run),
      (
        (
          record {
            more = follow.pipelines;
            apart = (told.1.0.0, leads.proper.differ);
            alone = alone_kept v s t leads.pipelines;
          },
          leads.proper.few,
        ),
        (
          ((leads.proper.totals, leads.proper.branches.0, leads.proper.branches.1), follow.branches),
          record {
            names = leads.proper.names;
            parts = front_parted v t leads.proper (fits_after v s t leads);
            stay = follow.parts;
            follow = follow.marks;
          },
        ),
      ),
    )

-- ---- the whole text

later_is : (v : Version) (s t : State) → new_pipelines v s t ≡ later_text v s.pipelines t.pipelines
later_is version_1 s t = refl
later_is version_2 s t = refl

regrouped : (a b p t q e n : List ℕ) → (((a ++ b) ++ ((p ++ t) ++ q)) ++ e) ++ n ≡ (a ++ b)
    ++ ((p ++ (t ++ q)) ++ (e ++ n))
regrouped a b p t q e n = simp append_assoc

change_parts : (v : Version) (s t : State) → delta_spelling v s t
    ≡ front_text v t.run ++ (rest_text_over v s (rest_in t) ++ (codes "end" ++ 10 ∷ []))
unfolding delta_spelling
change_parts v s t =
    regrouped (numbered_line (codes "gobblin-delta") (version_number v ∷ [])) (numbered_line (codes "run") (t.run ∷ []))
    (new_pipelines v s t) (totals_text t.totals) (parts_text v (changed_parts s t)) (codes "end") (10 ∷ [])
    ∙ ap (λ x. front_text v t.run ++ ((x ++ (totals_text t.totals ++ parts_text v (changed_parts s t)))
    ++ (codes "end" ++ 10 ∷ []))) (later_is v s t)

abbrev RunReads : Version → State → List ℕ → List ℕ → Option ℕ → Type 0
RunReads v s bytes mid o = ReadsSpelling (front_text v) (IsNextRun s.run) GoesOnAtAll bytes mid o

abbrev RestReads : Version → State → List ℕ → List ℕ → Option (List (List ℕ) × (Counts × Table Marks)) → Type 0
RestReads v s mid rest o = ReadsSpelling (rest_text_over v s) (RestAfter v s) NoPart mid rest o

run_is : (v : Version) (s t : State) (bytes mid : List ℕ) (o : Option ℕ) → RunReads v s bytes mid o
    → ReadsAsChange v s bytes t
    → (o ≡ Some t.run) × (mid ≡ rest_text_over v s (rest_in t) ++ (codes "end\n" ++ []))
run_is v s t bytes mid o r is = r.read t.run (rest_text_over v s (rest_in t) ++ (codes "end\n" ++ []))
    (rest_after v s t is.leads).0 tt (is.spelled ∙ change_parts v s t)

rest_is : (v : Version) (s t : State) (bytes mid rest : List ℕ) (o : Option ℕ)
    (q : Option (List (List ℕ) × (Counts × Table Marks))) → RunReads v s bytes mid o → RestReads v s mid rest q
    → ReadsAsChange v s bytes t → (q ≡ Some (rest_in t)) × (rest ≡ codes "end\n" ++ [])
rest_is v s t bytes mid rest o q r read is = read.read (rest_in t) (codes "end\n" ++ []) (rest_after v s t is.leads).1
    (no_part_at_end []) (run_is v s t bytes mid o r is).1

pub no_run : (v : Version) (s : State) (bytes mid : List ℕ) (o : Option ℕ) → RunReads v s bytes mid o → o ≡ None
    → ReadsAsNoChange v s bytes
no_run v s bytes mid o r none t is = no_more t.run (sym none ∙ (run_is v s t bytes mid o r is).0)

pub no_rest : (v : Version) (s : State) (bytes mid rest : List ℕ) (o : Option ℕ)
    (q : Option (List (List ℕ) × (Counts × Table Marks))) → RunReads v s bytes mid o → RestReads v s mid rest q
    → q ≡ None → ReadsAsNoChange v s bytes
no_rest v s bytes mid rest o q r read none t is =
    no_more (rest_in t) (sym none ∙ (rest_is v s t bytes mid rest o q r read is).0)

pub no_end : (v : Version) (s : State) (bytes mid rest last : List ℕ) (o : Option ℕ)
    (q : Option (List (List ℕ) × (Counts × Table Marks))) (b : Bool) → RunReads v s bytes mid o
    → RestReads v s mid rest q
    → TakesText (codes "end\n") rest last b → b ≡ false → ReadsAsNoChange v s bytes
no_end v s bytes mid rest last o q b r read text gone t is =
    true≢false (sym (text.read [] (rest_is v s t bytes mid rest o q r read is).1).0 ∙ gone)

pub more_behind : (v : Version) (s : State) (bytes mid rest last : List ℕ) (o : Option ℕ)
    (q : Option (List (List ℕ) × (Counts × Table Marks))) (b : Bool) → RunReads v s bytes mid o
    → RestReads v s mid rest q
    → TakesText (codes "end\n") rest last b → (last ≡ [] → ⊥) → ReadsAsNoChange v s bytes
more_behind v s bytes mid rest last o q b r read text more t is =
    more (text.read [] (rest_is v s t bytes mid rest o q r read is).1).1

pub change_read : (v : Version) (s : State) (bytes mid rest last : List ℕ) (run : ℕ)
    (z : List (List ℕ) × (Counts × Table Marks)) (b : Bool) → RunReads v s bytes mid (Some run)
    → RestReads v s mid rest (Some z) → TakesText (codes "end\n") rest last b → b ≡ true → last ≡ []
    → ReadsAsChange v s bytes (state_with run z)
change_read v s bytes mid rest last run z b r read text taken done = record {
  spelled = r.spelled.1 ∙ ap (λ x. front_text v run ++ x)
      (read.spelled.1 ∙ ap (λ x. rest_text_over v s z ++ x) (text.spelled taken ∙ ap (λ x. codes "end\n" ++ x) done))
      ∙ sym (change_parts v s (state_with run z));
  leads = leads_from v s run z r.spelled.0 read.spelled.0;
}

-- ---- the first two lines

abbrev VersionReads : List ℕ → List ℕ → Option CodeVersion → Type 0
VersionReads old mid o = ReadsSpelling (version_line (codes "gobblin-delta")) AnyVersion GoesOnAtAll old mid o

abbrev NumberReads : List ℕ → List ℕ → Option ℕ → Type 0
NumberReads mid new o = ReadsSpelling (λ n. numbered_line (codes "run") (n ∷ []))
    (λ n. n < 2 ^ 64) GoesOnAtAll mid new o

abbrev FrontReads : CodeVersion → ℕ → List ℕ → List ℕ → Option ℕ → Type 0
FrontReads w run old new o = ReadsSpelling (front_text (version_of w)) (IsNextRun run) GoesOnAtAll old new o

one_code : (a b : CodeVersion) → version_of a ≡ version_of b → a ≡ b
one_code First First e = refl
one_code First Second e = absurd (let never : version_1 ≡ version_2 = e in cc)
one_code Second First e = absurd (let never : version_2 ≡ version_1 = e in cc)
one_code Second Second e = refl

pub version_missing : (w : CodeVersion) (run : ℕ) (old mid : List ℕ) (o : Option CodeVersion) → VersionReads old mid o
    → o ≡ None → FrontReads w run old mid None
version_missing w run old mid o r none =
    first_missing (run_pairing (version_of w) run) old mid mid None None
    (not_even old mid mid o None r (λ x h. tt) none refl)
    refl refl

pub other_version : (w told : CodeVersion) (run : ℕ) (old mid : List ℕ) (o : Option CodeVersion)
    → VersionReads old mid o
    → o ≡ Some told → (told ≡ w → ⊥) → FrontReads w run old mid None
other_version w told run old mid o r is apart =
    first_missing (run_pairing (version_of w) run) old mid mid None None
    (refused old mid mid told None (is_there old mid o told r is) (λ x h. tt) (λ h. apart (one_code told w h)) refl)
    refl refl

version_there : (w told : CodeVersion) (old mid : List ℕ) (o : Option CodeVersion) → VersionReads old mid o
    → o ≡ Some told → told ≡ w
    → ReadsSpelling (version_line (codes "gobblin-delta")) (λ x. version_of x ≡ version_of w) GoesOnAtAll old mid
    (Some told)
version_there w told old mid o r is same = passed old mid told (is_there old mid o told r is) (λ x h. tt)
    (ap version_of same)

pub run_missing : (w told : CodeVersion) (run : ℕ) (old mid new : List ℕ) (o : Option CodeVersion) (q : Option ℕ)
    → VersionReads old mid o → o ≡ Some told → told ≡ w → NumberReads mid new q → q ≡ None
    → FrontReads w run old new None
run_missing w told run old mid new o q r is same read none =
    second_missing (run_pairing (version_of w) run) old mid new told None None
    (version_there w told old mid o r is same)
    (not_even mid new new q None read (λ n h. h.1) none refl) refl refl

pub other_run : (w told : CodeVersion) (run next : ℕ) (old mid new : List ℕ) (o : Option CodeVersion) (q : Option ℕ)
    → VersionReads old mid o → o ≡ Some told → told ≡ w → NumberReads mid new q → q ≡ Some next
    → (next ≡ run + 1 → ⊥) → FrontReads w run old new None
other_run w told run next old mid new o q r is same read there apart =
    second_missing (run_pairing (version_of w) run) old mid new told None None
    (version_there w told old mid o r is same)
    (refused mid new new next None (is_there mid new q next read there) (λ n h. h.1) (λ h. apart h.0) refl) refl refl

pub run_there : (w told : CodeVersion) (run next : ℕ) (old mid new : List ℕ) (o : Option CodeVersion) (q : Option ℕ)
    → VersionReads old mid o → o ≡ Some told → told ≡ w → NumberReads mid new q → q ≡ Some next
    → next ≡ run + 1 → FrontReads w run old new (Some next)
run_there w told run next old mid new o q r is same read there behind =
    let number = is_there mid new q next read there in
    both_read (run_pairing (version_of w) run) old mid new told next (Some next) (Some next)
    (version_there w told old mid o r is same)
    (passed mid new next number (λ n h. h.1) (behind, number.spelled.0)) refl refl

-- ---- totals and partitions

abbrev TotalsReads : List ℕ → List ℕ → Option Counts → Type 0
TotalsReads old mid o = ReadsSpelling totals_text AreTotals NoBranch old mid o

pub totals_missing : (v : Version) (n least : ℕ) (t : Table Marks) (old mid : List ℕ) (o : Option Counts)
    → TotalsReads old mid o → o ≡ None → ReadsSpelling (counted_text_over v t)
    (CountedAfter v n least t) NoPart old mid None
totals_missing v n least t old mid o r none =
    first_missing (counted_pairing v n least t) old mid mid None None
    (not_even old mid mid o None r (λ c h. h.0) none refl) refl refl

pub too_few : (v : Version) (n least : ℕ) (t : Table Marks) (old mid : List ℕ) (o : Option Counts) (c : Counts)
    → TotalsReads old mid o → o ≡ Some c → length c.branches < least
    → ReadsSpelling (counted_text_over v t) (CountedAfter v n least t) NoPart old mid None
too_few v n least t old mid o c r is few =
    first_missing (counted_pairing v n least t) old mid mid None None
    (refused old mid mid c None (is_there old mid o c r is) (λ d h. h.0)
    (λ h. let many = h.1 in omega (arith, few, many)) refl)
    refl refl

totals_there : (least : ℕ) (old mid : List ℕ) (o : Option Counts) (c : Counts) → TotalsReads old mid o → o ≡ Some c
    → least ≤ length c.branches → ReadsSpelling totals_text (TotalsAfter least) NoBranch old mid (Some c)
totals_there least old mid o c r is many =
    let there = is_there old mid o c r is in passed old mid c there (λ d h. h.0) (there.spelled.0, many)

abbrev ChangedReads : Version → ℕ → Table Marks → List ℕ → List ℕ → Option (Table Marks) → Type 0
ChangedReads v n t mid new q = ReadsSpelling (λ u. parts_text v (changed_table t u)) (PartsAfter v n t) NoPart mid new q

pub changes_missing : (v : Version) (n least : ℕ) (t : Table Marks) (old mid new : List ℕ) (o : Option Counts)
    (c : Counts)
    (q : Option (Table Marks)) → TotalsReads old mid o → o ≡ Some c → least ≤ length c.branches
    → ChangedReads v n t mid new q → q ≡ None → ReadsSpelling (counted_text_over v t)
    (CountedAfter v n least t) NoPart old new None
changes_missing v n least t old mid new o c q r is many read none =
    second_missing (counted_pairing v n least t) old mid new c None None (totals_there least old mid o c r is many)
    (is_missing mid new q read none) refl refl

pub counted_there : (v : Version) (n least : ℕ) (t u : Table Marks) (old mid new : List ℕ) (o : Option Counts)
    (c : Counts)
    (q : Option (Table Marks)) → TotalsReads old mid o → o ≡ Some c → least ≤ length c.branches
    → ChangedReads v n t mid new q → q ≡ Some u
    → ReadsSpelling (counted_text_over v t) (CountedAfter v n least t) NoPart old new (Some (c, u))
counted_there v n least t u old mid new o c q r is many read there =
    both_read (counted_pairing v n least t) old mid new c u (Some u) (Some (c, u))
    (totals_there least old mid o c r is many)
    (is_there mid new q u read there) refl refl

-- ---- pipelines, totals and partitions

pub apart_of : (s : State) → Proper s → AreApart s.pipelines
apart_of s proper = (recursion_from_All IsKeptPipeline s.pipelines proper.pipelines, proper.differ)

abbrev LaterReads : Version → State → List ℕ → List ℕ → Option (List (List ℕ)) → Type 0
LaterReads v s old mid o = ReadsSpelling (later_text v s.pipelines) (PipelinesAfter v s.pipelines) GoesOnAtAll old mid o

later_there : (v : Version) (s : State) (old mid : List ℕ) (o : Option (List (List ℕ))) (qs : List (List ℕ)) (n : ℕ)
    → LaterReads v s old mid o → o ≡ Some qs → n ≡ length qs → n < 2 ^ 64
    → ReadsSpelling (later_text v s.pipelines) (SmallAfter v s) GoesOnAtAll old mid (Some qs)
later_there v s old mid o qs n r is count small =
    let there = is_there old mid o qs r is in
    passed old mid qs there (λ d h. h.0) (there.spelled.0, omega (arith, count, small))

abbrev CountedReads : Version → State → ℕ → ℕ → List ℕ → List ℕ → Option (Counts × Table Marks) → Type 0
CountedReads v s n least mid new q = ReadsSpelling (counted_text_over v s.parts)
    (CountedAfter v n least s.parts) NoPart mid new q

pub later_missing : (v : Version) (s : State) (old mid : List ℕ) (o : Option (List (List ℕ))) → LaterReads v s old mid o
    → o ≡ None → ReadsSpelling (rest_text_over v s) (RestAfter v s) NoPart old mid None
later_missing v s old mid o r none =
    first_missing (rest_pairing v s) old mid mid None None (not_even old mid mid o None r (λ c h. h.0) none refl) refl
    refl

pub counted_missing : (v : Version) (s : State) (old mid new : List ℕ) (o : Option (List (List ℕ))) (qs : List (List ℕ))
    (n least : ℕ) (q : Option (Counts × Table Marks)) → LaterReads v s old mid o → o ≡ Some qs → n ≡ length qs
    → n < 2 ^ 64
    → least ≡ length s.totals.branches → CountedReads v s n least mid new q → q ≡ None
    → ReadsSpelling (rest_text_over v s) (RestAfter v s) NoPart old new None
counted_missing v s old mid new o qs n least q r is count small few read none =
    second_missing (rest_pairing v s) old mid new qs None None (later_there v s old mid o qs n r is count small)
    (is_missing mid new q (subst (λ k. CountedReads v s k (length s.totals.branches) mid new q) count
    (subst (λ k. CountedReads v s n k mid new q) few read)) none) refl refl

pub rest_there : (v : Version) (s : State) (old mid new : List ℕ) (o : Option (List (List ℕ))) (qs : List (List ℕ))
    (n least : ℕ) (q : Option (Counts × Table Marks)) (z : Counts × Table Marks) → LaterReads v s old mid o
    → o ≡ Some qs
    → n ≡ length qs → n < 2 ^ 64
    → least ≡ length s.totals.branches → CountedReads v s n least mid new q → q ≡ Some z
    → ReadsSpelling (rest_text_over v s) (RestAfter v s) NoPart old new (Some (qs, z))
rest_there v s old mid new o qs n least q z r is count small few read there =
    both_read (rest_pairing v s) old mid new qs z (Some z) (Some (qs, z))
    (later_there v s old mid o qs n r is count small)
    (is_there mid new q z (subst (λ k. CountedReads v s k (length s.totals.branches) mid new q) count
    (subst (λ k. CountedReads v s n k mid new q) few read)) there) refl refl

-- the pipelines that were read are those after a change
pub later_is_after : (v : Version) (s : State) (old mid : List ℕ) (o : Option (List (List ℕ))) (qs : List (List ℕ))
    → LaterReads v s old mid o → o ≡ Some qs → PipelinesAfter v s.pipelines qs
later_is_after v s old mid o qs r is = (is_there old mid o qs r is).spelled.0

-- ---- the readers as the code has them

pub run_reads : (v : Version) (s : State) (text bytes mid : List ℕ) (run : ℕ) (o : Option ℕ) → text ≡ bytes
    → run ≡ s.run
    → ReadsSpelling (front_text v) (IsNextRun run) GoesOnAtAll text mid o → RunReads v s bytes mid o
run_reads v s text bytes mid run o same level r =
    subst (λ x. ReadsSpelling (front_text v) (IsNextRun s.run) GoesOnAtAll x mid o) same
    (subst (λ n. ReadsSpelling (front_text v) (IsNextRun n) GoesOnAtAll text mid o) level r)
