-- The text of a state: which state it makes.
use Rattle.std.proofs.Common.{◌≡◌, ◌≢◌, ℕ, ◌<◌, ◌^◌, Bool, true, false, List, [], ◌∷◌}
use Rattle.std.proofs.Common.{◌++◌, length, refl, sym, ap, subst, ◌∙◌, Some, None}
use Rattle.std.proofs.Common.{append_assoc, arith, codes}
use Rattle.std.specs.declared.option.Option.{Option}
use Rattle.std.specs.List.{AllByRecursion, Contains, flat_map}
use Rattle.std.proofs.lemmas.Bool.{true≢false}
use Rattle.std.proofs.lemmas.List.Elements.{All-from_recursion, recursion_from_All}
use Rattle.std.proofs.lemmas.Option.{same_Some}
use Rattle.gob_bytes.proofs.Tables.{at_from_member, member_from_at}
use Rattle.gob_bytes.specs.Tables.{Table}
use Rattle.gob_bytes.specs.Words.{numbered_line}
use Rattle.gob_plan.specs.declared.units.Counts.{Counts}
use Rattle.gob_ledger.specs.Marks.{Marks}
use Rattle.gob_ledger.specs.Spelling.{Version, version_1, version_2, FitsVersion, IsKeptPipeline}
use Rattle.gob_ledger.specs.Spelling.{Proper, ReadsAs, Small, parts_text}
use Rattle.gob_ledger.specs.Spelling.{pipeline_part, pipelines_text, state_spelling, totals_text}
use Rattle.gob_ledger.specs.State as states
use Rattle.gob_ledger.specs.State.{marks_at, TiledState}
use Rattle.gob_ledger.proofs.Changes.{all_member}
use Rattle.gob_ledger.proofs.StateLines.{from_members}
use Rattle.gob_text.specs.Words.{GoesOnAtAll, TakesText}
use Rattle.gob_state.specs.Counts.{AreTotals, NoBranch}
use Rattle.gob_state.specs.Files.{count_line, CountFits, ArePipelinesOf, counted_text, AreCounted, rest_text}
use Rattle.gob_state.specs.Files.{state_rest, IsToldBy, NoStateIn}
use Rattle.gob_state.specs.Parts.{AreParts, IsPart, NoPart}
use Rattle.gob_state.specs.Ranges.{IndexIs}
use Rattle.gob_state.specs.Reads.{ReadsSpelling}
use Rattle.gob_state.specs.Settings.{ArePipelines}
use Rattle.gob_state.specs.Versions.{version_line, version_of, AnyVersion}
use Rattle.gob_state.specs.declared.version.Version.{Version as CodeVersion}
use Rattle.gob_state.specs.declared.version.Version.TheVariants.{First, Second}
use Rattle.gob_state.proofs.Steps.{Pairing, no_more}

-- ---- the pairs

-- pipelines that are there, before it is known that they differ
abbrev pub AreKept : Version → List (List ℕ) → Type 0
AreKept v ps = AllByRecursion IsKeptPipeline ps × CountFits v (length ps)

pub pipelines_spelled : (v : Version) (n : ℕ) (ps : List (List ℕ)) → length ps ≡ n
    → pipelines_text v ps ≡ count_line v n ++ flat_map pipeline_part ps
pipelines_spelled version_1 n ps e = refl
pipelines_spelled version_2 n ps e = ap (λ k. numbered_line (codes "pipelines") (k ∷ []) ++ flat_map pipeline_part ps) e

abbrev pub pipelines_pairing : (v : Version) → Pairing (count_line v) (CountFits v) GoesOnAtAll
    (λ n ps. flat_map pipeline_part ps) (λ n ps. ArePipelines n ps) (pipelines_text v) (AreKept v) GoesOnAtAll
pipelines_pairing v = record {
  to = λ n ps. ps;
  first = λ ps. length ps;
  second = λ ps. ps;
  whole = λ ps. refl;
  spells = λ n ps f are. pipelines_spelled v n ps are.1;
  fits = λ n ps f are. (are.0, subst (CountFits v) (sym are.1) f);
  parts = λ ps f. (f.1, (f.0, refl));
  goes = λ n ps after f are g. tt;
}

pub no_branch_in_parts : (v : Version) (es : Table Marks) (after : List ℕ) → NoPart after
    → NoBranch (parts_text v es ++ after)
no_branch_in_parts v [] after g = g.no_branch
no_branch_in_parts v (e ∷ es) after g = λ x same. let n : ◌≡◌ {A = ℕ} 112 98 = cc in absurd (omega (arith, n))

abbrev pub counted_pairing : (v : Version) (n : ℕ) → Pairing totals_text AreTotals NoBranch (λ c es. parts_text v es)
    (λ c es. AreParts v n es) (counted_text v) (AreCounted v n) NoPart
counted_pairing v n = record {
  to = λ c es. (c, es);
  first = λ z. z.0;
  second = λ z. z.1;
  whole = λ z. refl;
  spells = λ c es f g. refl;
  fits = λ c es f g. (f, g);
  parts = λ z f. f;
  goes = λ c es after f g h. no_branch_in_parts v es after h;
}

abbrev pub AreRest : Version → List (List ℕ) × (Counts × Table Marks) → Type 0
AreRest v z = ArePipelinesOf v z.0 × AreCounted v (length z.0) z.1

abbrev pub rest_pairing : (v : Version) → Pairing (pipelines_text v) (ArePipelinesOf v) GoesOnAtAll
    (λ ps z. counted_text v z)
    (λ ps z. AreCounted v (length ps) z) (rest_text v) (AreRest v) NoPart
rest_pairing v = record {
  to = λ ps z. (ps, z);
  first = λ z. z.0;
  second = λ z. z.1;
  whole = λ z. refl;
  spells = λ ps z f g. refl;
  fits = λ ps z f g. (f, g);
  parts = λ z f. f;
  goes = λ ps z after f g h. tt;
}

-- ---- a proper state

pub named : (name : List ℕ) → 0 < length name → name ≢ []
named name some e = let size = ap length e in omega arith

pub has_bytes : (name : List ℕ) → name ≢ [] → 0 < length name
has_bytes [] some = absurd (some refl)
has_bytes (b ∷ bs) some = omega arith

pub few_of : (v : Version) (n : ℕ) → CountFits v n → Small n
few_of version_1 n f = let one : n ≡ 1 = f in omega arith
few_of version_2 n f = f

version_fits : (v : Version) (s : states.State) → CountFits v (length s.pipelines) → FitsVersion v s
version_fits version_1 s f = f
version_fits version_2 s f = tt

pub count_fits : (v : Version) (s : states.State) → Proper s → FitsVersion v s → CountFits v (length s.pipelines)
count_fits version_1 s p f = f
count_fits version_2 s p f = p.few

pub index_is : (v : Version) (s : states.State) (i : ℕ) → Proper s → FitsVersion v s → i < length s.pipelines
    → IndexIs v i
index_is version_1 s i p f below = let one : length s.pipelines ≡ 1 = f in omega arith
index_is version_2 s i p f below = let few = p.few in omega arith

pub proper_from : (v : Version) (s : states.State) → Small s.run → AreRest v (s.pipelines, (s.totals, s.parts))
    → IsToldBy v s
proper_from v s small f = (
  record {
    run = small;
    pipelines = All-from_recursion IsKeptPipeline s.pipelines f.0.0;
    few = few_of v (length s.pipelines) f.0.1;
    differ = f.0.2;
    totals = f.1.0.0;
    branches = (f.1.0.1, f.1.0.2);
    names = f.1.1.1;
    parts = λ part m at.
        let p = part_at part m at in
        record { named = named part p.0.0; text = p.0.1; begun = p.2; small = p.1.small };
    tiled = record {
      tiled = λ part m at. (part_at part m at).1.tiled;
      indexed = λ part m d at h. ((part_at part m at).1.indexed d h).0;
    };
  },
  version_fits v s f.0.1,
)
  where
    part_at : (part : List ℕ) (m : Marks) → marks_at s part ≡ Some m → IsPart v (length s.pipelines) (part, m)
    part_at part m at =
        all_member (IsPart v (length s.pipelines)) s.parts (part, m) f.1.1.0 (member_from_at s.parts part m at)

pub rest_of : (v : Version) (s : states.State) → IsToldBy v s → Small s.run
    × AreRest v (s.pipelines, (s.totals, s.parts))
rest_of v s told =
    let p = told.0 in (
      p.run,
      (
        (recursion_from_All IsKeptPipeline s.pipelines p.pipelines, count_fits v s p told.1, p.differ),
        ((p.totals, p.branches.0, p.branches.1), (from_members (IsPart v (length s.pipelines)) s.parts part, p.names)),
      ),
    )
  where
    part : (e : List ℕ × Marks) → Contains s.parts e → IsPart v (length s.pipelines) e
    part e h =
        let p = told.0 in
        let at : marks_at s e.0 ≡ Some e.1 = at_from_member s.parts e.0 e.1 p.names h in
        let own = p.parts e.0 e.1 at in (
          (has_bytes e.0 own.named, own.text),
          record {
            tiled = p.tiled.tiled e.0 e.1 at;
            small = own.small;
            indexed = λ d k.
                let below = p.tiled.indexed e.0 e.1 d at k in (below, index_is v s d.pipeline p told.1 below);
          },
          own.begun,
        )

abbrev pub state_pairing : (v : Version) → Pairing (λ n. numbered_line (codes "run") (n ∷ []))
    (λ n. n < 2 ^ 64) GoesOnAtAll
    (λ n z. rest_text v z) (λ n z. AreRest v z) (state_rest v) (IsToldBy v) NoPart
state_pairing v = record {
  to = λ n z. record { run = n; pipelines = z.0; totals = z.1.0; parts = z.1.1 };
  first = λ s. s.run;
  second = λ s. (s.pipelines, (s.totals, s.parts));
  whole = λ s. refl;
  spells = λ n z f g. refl;
  fits = λ n z f g. proper_from v (record { run = n; pipelines = z.0; totals = z.1.0; parts = z.1.1 }) f g;
  parts = λ s f. rest_of v s f;
  goes = λ n z after f g h. tt;
}

-- ---- the whole text

regrouped : (a b p t q e n : List ℕ) → (((a ++ b) ++ ((p ++ t) ++ q)) ++ e) ++ n
    ≡ a ++ ((b ++ (p ++ (t ++ q))) ++ (e ++ n))
regrouped a b p t q e n = simp append_assoc

-- a state's text is its first line, what stands between, and its last line
state_parts : (v : CodeVersion) (s : states.State) → state_spelling (version_of v) s
    ≡ version_line (codes "gobblin-state") v ++ (state_rest (version_of v) s ++ (codes "end" ++ 10 ∷ []))
unfolding state_spelling
state_parts v s = regrouped (version_line (codes "gobblin-state") v) (numbered_line (codes "run") (s.run ∷ []))
    (pipelines_text (version_of v) s.pipelines) (totals_text s.totals) (parts_text (version_of v) s.parts) (codes "end")
    (10 ∷ [])

abbrev pub code_of : Version → CodeVersion
code_of version_1 = First
code_of version_2 = Second

pub version_back : (v : Version) → version_of (code_of v) ≡ v
version_back version_1 = refl
version_back version_2 = refl

pub no_part_at_end : (after : List ℕ) → NoPart (codes "end\n" ++ after)
no_part_at_end after = record {
  no_range = record {
    no_done = λ x e. let n : ◌≡◌ {A = ℕ} 101 100 = cc in absurd (omega (arith, n));
    no_open = λ x e. let n : ◌≡◌ {A = ℕ} 101 111 = cc in absurd (omega (arith, n));
  };
  no_part = λ x e. let n : ◌≡◌ {A = ℕ} 101 112 = cc in absurd (omega (arith, n));
  no_branch = λ x e. let n : ◌≡◌ {A = ℕ} 101 98 = cc in absurd (omega (arith, n));
}

-- where a state's text is, each part of it is read
abbrev Begins : List ℕ → CodeVersion → states.State → Type 0
Begins bytes v s = bytes ≡ version_line (codes "gobblin-state") v ++ (state_rest (version_of v) s ++
    (codes "end\n" ++ []))

begins : (bytes : List ℕ) (v : CodeVersion) (s : states.State) → ReadsAs (version_of v) bytes s → Begins bytes v s
begins bytes v s r = r.spelled ∙ state_parts v s

pub no_version : (bytes mid : List ℕ) (o : Option CodeVersion)
    → ReadsSpelling (version_line (codes "gobblin-state")) AnyVersion GoesOnAtAll bytes mid o → o ≡ None
    → NoStateIn bytes
no_version bytes mid o r none v s is =
    let told = subst (λ w. ReadsAs w bytes s) (sym (version_back v)) is in
    no_more (code_of v)
    (sym none ∙ (r.read (code_of v) (state_rest (version_of (code_of v)) s ++ (codes "end\n" ++ [])) tt tt
    (begins bytes (code_of v) s told)).0)

-- the version is the one that was read
same_version : (bytes mid : List ℕ) (v : CodeVersion) (w : Version) (s : states.State)
    → ReadsSpelling (version_line (codes "gobblin-state")) AnyVersion GoesOnAtAll bytes mid (Some v) → ReadsAs w bytes s
    → ReadsAs (version_of v) bytes s × (mid ≡ state_rest (version_of v) s ++ (codes "end\n" ++ []))
same_version bytes mid v w s r is =
    let told = subst (λ x. ReadsAs x bytes s) (sym (version_back w)) is in
    let one = r.read (code_of w) (state_rest (version_of (code_of w)) s ++ (codes "end\n" ++ [])) tt tt
    (begins bytes (code_of w) s told) in
    let level : v ≡ code_of w = same_Some v (code_of w) one.0 in (
      subst (λ x. ReadsAs (version_of x) bytes s) (sym level) told,
      one.1 ∙ ap (λ x. state_rest (version_of x) s ++ (codes "end\n" ++ [])) (sym level),
    )

-- what is read of what stands between the first line and the last
between : (bytes mid rest : List ℕ) (v : CodeVersion) (w : Version) (o : Option states.State) (s : states.State)
    → ReadsSpelling (version_line (codes "gobblin-state")) AnyVersion GoesOnAtAll bytes mid (Some v)
    → ReadsSpelling (state_rest (version_of v)) (IsToldBy (version_of v)) NoPart mid rest o → ReadsAs w bytes s
    → (o ≡ Some s) × (rest ≡ codes "end\n" ++ [])
between bytes mid rest v w o s r q is =
    let told = same_version bytes mid v w s r is in
    q.read s (codes "end\n" ++ []) (told.0.proper, told.0.fits) (no_part_at_end []) told.1

pub no_state : (bytes mid rest : List ℕ) (v : CodeVersion) (o : Option states.State)
    → ReadsSpelling (version_line (codes "gobblin-state")) AnyVersion GoesOnAtAll bytes mid (Some v)
    → ReadsSpelling (state_rest (version_of v)) (IsToldBy (version_of v)) NoPart mid rest o → o ≡ None → NoStateIn bytes
no_state bytes mid rest v o r q none w s is = no_more s (sym none ∙ (between bytes mid rest v w o s r q is).0)

pub no_end : (bytes mid rest last : List ℕ) (v : CodeVersion) (s : states.State) (t : Bool)
    → ReadsSpelling (version_line (codes "gobblin-state")) AnyVersion GoesOnAtAll bytes mid (Some v)
    → ReadsSpelling (state_rest (version_of v)) (IsToldBy (version_of v)) NoPart mid rest (Some s)
    → TakesText (codes "end\n") rest last t → t ≡ false → NoStateIn bytes
no_end bytes mid rest last v s t r q text gone w u is =
    true≢false (sym (text.read [] (between bytes mid rest v w (Some s) u r q is).1).0 ∙ gone)

pub more_behind : (bytes mid rest last : List ℕ) (v : CodeVersion) (s : states.State) (t : Bool)
    → ReadsSpelling (version_line (codes "gobblin-state")) AnyVersion GoesOnAtAll bytes mid (Some v)
    → ReadsSpelling (state_rest (version_of v)) (IsToldBy (version_of v)) NoPart mid rest (Some s)
    → TakesText (codes "end\n") rest last t → (last ≡ [] → ⊥) → NoStateIn bytes
more_behind bytes mid rest last v s t r q text more w u is =
    more (text.read [] (between bytes mid rest v w (Some s) u r q is).1).1

pub state_read : (bytes mid rest last : List ℕ) (v : CodeVersion) (s : states.State) (t : Bool)
    → ReadsSpelling (version_line (codes "gobblin-state")) AnyVersion GoesOnAtAll bytes mid (Some v)
    → ReadsSpelling (state_rest (version_of v)) (IsToldBy (version_of v)) NoPart mid rest (Some s)
    → TakesText (codes "end\n") rest last t → t ≡ true → last ≡ [] → ReadsAs (version_of v) bytes s
state_read bytes mid rest last v s t r q text taken done = record {
  spelled = r.spelled.1 ∙ ap (λ x. version_line (codes "gobblin-state") v ++ x)
      (q.spelled.1 ∙ ap (λ x. state_rest (version_of v) s ++ x) (text.spelled taken
      ∙ ap (λ x. codes "end\n" ++ x) done))
      ∙ sym (state_parts v s);
  fits = q.spelled.0.1;
  proper = q.spelled.0.0;
}
