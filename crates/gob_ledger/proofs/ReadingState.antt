-- A state's file reads as one state.
use Rattle.std.proofs.Common.{◌≡◌, ◌⊎◌, inl, inr, ℕ, ◌<◌, ◌≤◌, List, [], ◌∷◌, length, refl, sym, ap, subst, ◌∙◌, Some}
use Rattle.std.proofs.Common.{None, codes, arith}
use Rattle.std.specs.declared.option.Option.{Option}
use Rattle.std.specs.Option.{option_and_then}
use Rattle.std.specs.List.{AllByRecursion, Contains}
use Rattle.std.proofs.lemmas.List.Elements.{recursion_from_All}
use Rattle.gob_bytes.proofs.Forms.{bytes_from_utf8}
use Rattle.gob_bytes.proofs.Tables.{at_from_member}
use Rattle.gob_bytes.specs.Tables.{Table}
use Rattle.gob_bytes.specs.Words.{numbered_line}
use Rattle.gob_ledger.specs.Marks.{Marks, Done, Span, Tiled}
use Rattle.gob_ledger.specs.State.{State, marks_at, TiledState}
use Rattle.gob_ledger.specs.Spelling.{Small, ProperPart, Proper, Version, version_1, version_2, version_number}
use Rattle.gob_ledger.specs.Spelling.{FitsVersion, ReadsAs, state_spelling, file_text, pipelines_text, totals_text}
use Rattle.gob_ledger.specs.Spelling.{parts_text, IsKeptPipeline}
use Rattle.gob_ledger.specs.Laws.{OneSpellingAState}
use Rattle.gob_ledger.proofs.Members.{map_in}
use Rattle.gob_ledger.proofs.Ranges.{owed_below, done_below, order_members}
use Rattle.gob_ledger.proofs.WordLines.{WordLine, lines_text, word_lines, lines_read}
use Rattle.gob_ledger.proofs.Merging.{starts_apart}
use Rattle.gob_ledger.proofs.StateLines.{from_members, mixed_rises, HasLines, pipeline_has_lines, IndexFits, SpanFits}
use Rattle.gob_ledger.proofs.StateLines.{DoneFits, PartFits, ContentsFit, contents_lines, contents_text, contents_good}
use Rattle.gob_ledger.proofs.Reading.{AsMany, contents_read, contents_back, versioned, and_then, number_line_read}

-- ---- what a proper state's file can tell

index_fits : (v : Version) (s : State) (i : ℕ) → FitsVersion v s → Small (length s.pipelines) → i < length s.pipelines
    → IndexFits v i
index_fits version_1 s i one few below = let n : length s.pipelines ≡ 1 = one in omega (arith, n, below)
index_fits version_2 s i one few below = omega (arith, few, below)

span_fits : (m : Marks) (s : Span) → Small m.next → s.lo < s.hi → s.hi ≤ m.next → SpanFits s
span_fits m s small some below = record { lo = omega (arith, small, some, below); hi = omega (arith, small, below) }

done_fits : (v : Version) (s : State) (part : List ℕ) (m : Marks) → Proper s → FitsVersion v s
    → marks_at s part ≡ Some m → (d : Done) → Contains m.finished d → DoneFits v d
done_fits v s part m proper fits at d h =
    let b = done_below m (proper.tiled.tiled part m at) d.span (map_in (λ (x : Done). x.span) m.finished d h) in
    record {
      span = span_fits m d.span (proper.parts part m at).small b.0 b.1;
      index = index_fits v s d.pipeline fits proper.few (proper.tiled.indexed part m d at h);
    }

owed_fits : (s : State) (part : List ℕ) (m : Marks) → Proper s → marks_at s part ≡ Some m → (sp : Span)
    → Contains m.owed sp → SpanFits sp
owed_fits s part m proper at sp h =
    let tiled = proper.tiled.tiled part m at in
    span_fits m sp (proper.parts part m at).small (order_members 0 m.owed sp tiled.owed h).1 (owed_below m tiled sp h)

pub part_fits : (v : Version) (s : State) → Proper s → FitsVersion v s → (e : List ℕ × Marks) → Contains s.parts e
    → PartFits v e
part_fits v s proper fits e h =
    let at : marks_at s e.0 ≡ Some e.1 = at_from_member s.parts e.0 e.1 proper.names h in
    let own = proper.parts e.0 e.1 at in
    let tiled = proper.tiled.tiled e.0 e.1 at in
    record {
      bytes = bytes_from_utf8 e.0 own.text;
      next = own.small;
      order = tiled.finished;
      rise = mixed_rises 0 e.1.finished e.1.owed tiled.finished tiled.owed (starts_apart e.1 tiled);
      finished = from_members (DoneFits v) e.1.finished (done_fits v s e.0 e.1 proper fits at);
      owed = from_members SpanFits e.1.owed (owed_fits s e.0 e.1 proper at);
    }

pub have_lines : (ps : List (List ℕ)) → AllByRecursion IsKeptPipeline ps → AllByRecursion HasLines ps
have_lines [] all = tt
have_lines (p ∷ ps) all = (pipeline_has_lines p all.0, have_lines ps all.1)

pub state_fits : (v : Version) (s : State) → Proper s → FitsVersion v s → ContentsFit v s
state_fits v s proper fits = record {
  run = proper.run;
  pipelines = have_lines s.pipelines (recursion_from_All IsKeptPipeline s.pipelines proper.pipelines);
  few = proper.few;
  totals = proper.totals;
  branches = proper.branches.1;
  parts = from_members (PartFits v) s.parts (part_fits v s proper fits);
}

-- ---- the reader

-- one pipeline, or a line with their number
abbrev pub state_pipelines : Version → Option ℕ
state_pipelines version_1 = Some 1
state_pipelines version_2 = None

as_many : (v : Version) (s : State) → FitsVersion v s → AsMany (state_pipelines v) s.pipelines
as_many version_1 s fits = fits
as_many version_2 s fits = tt

abbrev pub state_lines : Version → State → List WordLine
state_lines v s = contents_lines (codes "gobblin-state") v (state_pipelines v) s

pub state_text_is : (v : Version) (s : State) → AllByRecursion HasLines s.pipelines
    → lines_text (state_lines v s) ≡ state_spelling v s
unfolding state_spelling
state_text_is version_1 s have = contents_text (codes "gobblin-state") version_1 (Some 1) s have
state_text_is version_2 s have = contents_text (codes "gobblin-state") version_2 None s have

-- the lines of a text, read
abbrev pub text_read_by : {X : Type 0} → (List WordLine → Option X) → List ℕ → Option X
text_read_by read bytes = option_and_then read (word_lines bytes)

-- what a text in this version tells, proper or not
abbrev pub state_told : Version → List ℕ → Option State
state_told v bytes = text_read_by (contents_read (codes "gobblin-state") v (state_pipelines v)) bytes

spelled_lines : (v : Version) (s : State) → Proper s → FitsVersion v s
    → word_lines (state_spelling v s) ≡ Some (state_lines v s)
spelled_lines v s proper fits =
    let fit = state_fits v s proper fits in
    ap word_lines (sym (state_text_is v s fit.pipelines))
    ∙ lines_read (state_lines v s) (contents_good (codes "gobblin-state") v (state_pipelines v) s refl fit)

-- a state that was written is read
pub state_back : (v : Version) (bytes : List ℕ) (s : State) → ReadsAs v bytes s → state_told v bytes ≡ Some s
state_back v bytes s r =
    let read : List WordLine → Option State = contents_read (codes "gobblin-state") v (state_pipelines v) in
    ap (λ x. option_and_then read (word_lines x)) r.spelled
    ∙ ap (option_and_then read) (spelled_lines v s r.proper r.fits)
    ∙ contents_back (codes "gobblin-state") v (state_pipelines v) s (as_many v s r.fits)
    (state_fits v s r.proper r.fits)

-- the other version reads nothing in it
pub other_version : (kind : List ℕ) (v w : Version) (how : Option ℕ) (how' : Option ℕ) (c : State) → (v ≡ w → ⊥)
    → contents_read kind w how' (contents_lines kind v how c) ≡ None
other_version kind v w how how' c apart = cases v w apart
  where
    cases : (v w : Version) → (v ≡ w → ⊥) → contents_read kind w how' (contents_lines kind v how c) ≡ None
    cases version_1 version_1 apart = absurd (apart refl)
    cases version_1 version_2 apart =
        ap (λ r. and_then r (versioned version_2 how')) (number_line_read kind 1 _ (omega arith))
    cases version_2 version_1 apart =
        ap (λ r. and_then r (versioned version_1 how')) (number_line_read kind 2 _ (omega arith))
    cases version_2 version_2 apart = absurd (apart refl)

same_version : (v w : Version) → (v ≡ w) ⊎ (v ≡ w → ⊥)
same_version version_1 version_1 = inl refl
same_version version_1 version_2 = inr (λ e. cc)
same_version version_2 version_1 = inr (λ e. cc)
same_version version_2 version_2 = inl refl

pub one_spelling : OneSpellingAState
one_spelling v w bytes s t r q = cases (same_version v w)
  where
    cases : (v ≡ w) ⊎ (v ≡ w → ⊥) → (v ≡ w) × (s ≡ t)
    cases (inl e) =
        let there : state_told w bytes ≡ Some s = subst (λ u. state_told u bytes ≡ Some s) e (state_back v bytes s r) in
        let both : Some s ≡ Some t = sym there ∙ state_back w bytes t q in (e, cc)
    cases (inr apart) =
        let read : List WordLine → Option State = contents_read (codes "gobblin-state") w (state_pipelines w) in
        let here : state_told w bytes ≡ None =
        ap (λ x. option_and_then read (word_lines x)) r.spelled
        ∙ ap (option_and_then read) (spelled_lines v s r.proper r.fits)
        ∙ other_version (codes "gobblin-state") v w (state_pipelines v) (state_pipelines w) s apart in
        absurd (let never : None ≡ Some t = sym here ∙ state_back w bytes t q in cc)
