-- Lines of totals and branches.
use Rattle.std.proofs.Common.{◌≡◌, ◌≢◌, ℕ, suc, ◌+◌, ◌<◌, ◌≤◌, ◌^◌, List, [], ◌∷◌, ◌++◌, length, refl, sym, ap, subst}
use Rattle.std.proofs.Common.{◌∙◌, Some, None, append_assoc, length-append, arith, codes, Bool}
use Rattle.std.proofs.Common.{true, false}
use Rattle.std.proofs.lemmas.Bool.{true≢false}
use Rattle.std.specs.declared.option.Option.{Option}
use Rattle.std.specs.List.{AllByRecursion, enumerate_from, flat_map}
use Rattle.std.proofs.lemmas.List.Elements.{All-from_recursion, recursion_from_All}
use Rattle.std.proofs.lemmas.List.FromFn.{length-enumerate_from}
use Rattle.std.proofs.lemmas.Option.{same_Some}
use Rattle.gob_plan.specs.declared.units.BranchCounts.{BranchCounts}
use Rattle.gob_plan.specs.declared.units.Counts.{Counts}
use Rattle.gob_ledger.specs.Spelling.{SmallBranch, branch_line, totals_text}
use Rattle.gob_text.specs.Words.{GoesOnAtAll, TakesText}
use Rattle.gob_state.specs.Reads.{ReadsSpelling, spaced_four, SmallFour}
use Rattle.gob_state.specs.Counts.{branch_count_lines, AreBranches, AreTotals, NoBranch}
use Rattle.gob_state.proofs.Steps.{Pairing, no_more}
use Rattle.gob_state.proofs.Along.{Along, OneMore, one_more, one_missing, all_read}
use Rattle.gob_state.proofs.SettingLemmas.{each_push, longer}

abbrev pub Indexed : Type 0
Indexed = ℕ × BranchCounts

-- the line of the branch with this index
abbrev pub IsBranchAt : ℕ → Indexed → Type 0
IsBranchAt i e = (e.0 ≡ i) × SmallBranch e.1

-- lines of branches as a file has them
abbrev pub AreLines : List Indexed → Type 0
AreLines es = (bs : List BranchCounts) × AreBranches bs × (es ≡ enumerate_from 0 bs)

enumerate_push : (i : ℕ) (bs : List BranchCounts) (b : BranchCounts)
    → enumerate_from i (bs ++ b ∷ []) ≡ enumerate_from i bs ++ (i + length bs, b) ∷ []
enumerate_push i [] b = ap (λ k. (k, b) ∷ []) (let e : i ≡ i + 0 = omega arith in e)
enumerate_push i (c ∷ cs) b =
    ap (λ es. (i, c) ∷ es) (enumerate_push (i + 1) cs b
    ∙ ap (λ k. enumerate_from (i + 1) cs ++ (k, b) ∷ []) (let e : i + 1 + length cs ≡ i + suc (length cs) =
    omega arith in e))

-- what stands behind some branches is the next one
behind : (i : ℕ) (bs cs : List BranchCounts) (z : Indexed) (zs : List Indexed) → AllByRecursion SmallBranch cs
    → enumerate_from i bs ++ z ∷ zs ≡ enumerate_from i cs → IsBranchAt (i + length bs) z
behind i [] [] z zs all e = let size : suc (length zs) ≡ 0 = ap length e in absurd (omega arith)
behind i [] (c ∷ cs) z zs all e =
    let same : z ≡ (i, c) = cc in
    subst (λ (y : Indexed). IsBranchAt (i + 0) y) (sym same) (omega arith, all.0)
behind i (b ∷ bs) [] z zs all e = let size : suc (length (enumerate_from (i + 1) bs ++ z ∷ zs)) ≡ 0 = ap length e in
    absurd (omega arith)
behind i (b ∷ bs) (c ∷ cs) z zs all e =
    let later : enumerate_from (i + 1) bs ++ z ∷ zs ≡ enumerate_from (i + 1) cs = cc in
    let r = behind (i + 1) bs cs z zs all.1 later in
    (r.0 ∙ (let same : i + 1 + length bs ≡ i + suc (length bs) = omega arith in same), r.1)

-- some of the lines of branches
pub record SomeBranches (old rest : List ℕ) (bs : List BranchCounts) (i : ℕ) : Type 0 where
  pub along : Along branch_line (λ es. Unit {0}) AreLines NoBranch old rest (enumerate_from 0 bs)
  pub small : AllByRecursion SmallBranch bs
  pub count : length bs ≡ i

one_more_branch : (i : ℕ) (rest mid : List ℕ) (bs : List BranchCounts) → length bs ≡ i → rest ≡ codes "branch" ++ mid
    → OneMore branch_line (IsBranchAt i) GoesOnAtAll AreLines NoBranch rest (enumerate_from 0 bs)
one_more_branch i rest mid bs count there = record {
  more = λ after w g e. g mid (sym e ∙ there);
  fits = λ z zs w.
      let r = behind 0 bs w.0 z zs (recursion_from_All SmallBranch w.0 w.1.0) w.2 in
      (r.0 ∙ (let same : 0 + length bs ≡ i = omega arith in same), r.1);
  goes = λ z zs after w g. tt;
}

abbrev as_four : Indexed → ℕ × ℕ × ℕ × ℕ
as_four e = (e.0, e.1.written, e.1.errors, e.1.optional)

small_four : (e : Indexed) → e.0 < 2 ^ 64 → SmallBranch e.1 → SmallFour (e.0, e.1.written, e.1.errors, e.1.optional)
small_four e i b = (i, (b.written, (b.errors, b.optional)))

-- the branch that four numbers tell, where the first is its index
pub branch_of_four : (i : ℕ) (rest mid new : List ℕ) (t : Bool) (n w e o : ℕ) → i < 8
    → TakesText (codes "branch") rest mid t → t ≡ true
    → ReadsSpelling spaced_four SmallFour GoesOnAtAll mid new (Some (n, w, e, o)) → n ≡ i
    → ReadsSpelling branch_line (IsBranchAt i) GoesOnAtAll rest new
    (Some (i, record { written = w; errors = e; optional = o }))
branch_of_four i rest mid new t n w e o few text taken r same = record {
  spelled = (
    (refl, record { written = r.spelled.0.1.0; errors = r.spelled.0.1.1.0; optional = r.spelled.0.1.1.1 }),
    text.spelled taken ∙ ap (λ x. codes "branch" ++ x) r.spelled.1
        ∙ sym (append_assoc (codes "branch") (spaced_four (n, w, e, o)) new)
        ∙ ap (λ k. (codes "branch" ++ spaced_four (k, w, e, o)) ++ new) same,
  );
  read = λ z after f g is.
      let split : rest ≡ codes "branch" ++ (spaced_four (z.0, z.1.written, z.1.errors, z.1.optional) ++ after) =
      is ∙ append_assoc (codes "branch") (spaced_four (z.0, z.1.written, z.1.errors, z.1.optional)) after in
      let small : z.0 < 2 ^ 64 = let level = f.0 in omega arith in
      let one = r.read (z.0, z.1.written, z.1.errors, z.1.optional) after (small_four z small f.1) tt
      (text.read _ split).1 in
      let four : (n, w, e, o) ≡ (z.0, z.1.written, z.1.errors, z.1.optional) =
      same_Some (n, w, e, o) (z.0, z.1.written, z.1.errors, z.1.optional) one.0 in (
        λ j. Some (
          sym f.0 j,
          record {
            written = ap (λ (q : ℕ × ℕ × ℕ × ℕ). q.1) four j;
            errors = ap (λ (q : ℕ × ℕ × ℕ × ℕ). q.2) four j;
            optional = ap (λ (q : ℕ × ℕ × ℕ × ℕ). q.3) four j;
          },
        ),
        one.1,
      );
}

-- the numbers aren't there
pub four_missing : (i : ℕ) (rest mid new any : List ℕ) (t : Bool) (q : Option (ℕ × ℕ × ℕ × ℕ)) → i < 8
    → TakesText (codes "branch") rest mid t → t ≡ true
    → ReadsSpelling spaced_four SmallFour GoesOnAtAll mid new q → q ≡ None
    → ReadsSpelling branch_line (IsBranchAt i) GoesOnAtAll rest any None
four_missing i rest mid new any t q few text taken r none = record {
  spelled = tt;
  read = λ z after f g is.
      let four : ℕ × ℕ × ℕ × ℕ = (z.0, z.1.written, z.1.errors, z.1.optional) in
      let split : rest ≡ codes "branch" ++ (spaced_four (z.0, z.1.written, z.1.errors, z.1.optional) ++ after) =
      is ∙ append_assoc (codes "branch") (spaced_four (z.0, z.1.written, z.1.errors, z.1.optional)) after in
      let small : z.0 < 2 ^ 64 = let level = f.0 in omega arith in
      let one = r.read (z.0, z.1.written, z.1.errors, z.1.optional) after (small_four z small f.1) tt
      (text.read _ split).1 in
      absurd (no_more (z.0, z.1.written, z.1.errors, z.1.optional) (sym none ∙ one.0));
}

-- the first of the numbers is another index
pub index_differs : (i : ℕ) (rest mid new any : List ℕ) (t : Bool) (n w e o : ℕ) → i < 8
    → TakesText (codes "branch") rest mid t → t ≡ true
    → ReadsSpelling spaced_four SmallFour GoesOnAtAll mid new (Some (n, w, e, o)) → n ≢ i
    → ReadsSpelling branch_line (IsBranchAt i) GoesOnAtAll rest any None
index_differs i rest mid new any t n w e o few text taken r apart = record {
  spelled = tt;
  read = λ z after f g is.
      let split : rest ≡ codes "branch" ++ (spaced_four (z.0, z.1.written, z.1.errors, z.1.optional) ++ after) =
      is ∙ append_assoc (codes "branch") (spaced_four (z.0, z.1.written, z.1.errors, z.1.optional)) after in
      let small : z.0 < 2 ^ 64 = let level = f.0 in omega arith in
      let one = r.read (z.0, z.1.written, z.1.errors, z.1.optional) after (small_four z small f.1) tt
      (text.read _ split).1 in
      let four : (n, w, e, o) ≡ (z.0, z.1.written, z.1.errors, z.1.optional) =
      same_Some (n, w, e, o) (z.0, z.1.written, z.1.errors, z.1.optional) one.0 in
      absurd (apart (ap (λ (q : ℕ × ℕ × ℕ × ℕ). q.0) four ∙ f.0));
}

pub next_branch : (i : ℕ) (old rest mid new : List ℕ) (bs : List BranchCounts) (b : BranchCounts)
    → SomeBranches old rest bs i → rest ≡ codes "branch" ++ mid
    → ReadsSpelling branch_line (IsBranchAt i) GoesOnAtAll rest new (Some (i, b)) → SomeBranches old new (bs ++ b ∷ [])
    (i + 1)
next_branch i old rest mid new bs b some there r =
    let place : (i, b) ≡ (0 + length bs, b) = ap (λ k. (k, b)) (let c = some.count in let e : i ≡ 0 + length bs =
    omega arith in e) in
    record {
      along = subst (Along branch_line (λ es. Unit {0}) AreLines NoBranch old new)
          (ap (λ e. enumerate_from 0 bs ++ e ∷ []) place ∙ sym (enumerate_push 0 bs b))
          (one_more old rest new (enumerate_from 0 bs) (i, b) some.along
          (one_more_branch i rest mid bs some.count there) r tt);
      small = each_push SmallBranch bs b some.small r.spelled.0.1;
      count = longer bs b ∙ ap (λ k. k + 1) some.count;
    }

-- lines read as branches
as_branches : (old new : List ℕ) (bs : List BranchCounts) → AreBranches bs
    → ReadsSpelling (λ es. flat_map branch_line es) AreLines NoBranch old new (Some (enumerate_from 0 bs))
    → ReadsSpelling branch_count_lines AreBranches NoBranch old new (Some bs)
as_branches old new bs are r = record {
  spelled = (are, r.spelled.1);
  read = λ cs after f g e.
      let one = r.read (enumerate_from 0 cs) after (cs, f, refl) g e in
      (ap Some (same_branches 0 bs cs (same_Some (enumerate_from 0 bs) (enumerate_from 0 cs) one.0)), one.1);
}
  where
    same_branches : (i : ℕ) (bs cs : List BranchCounts) → enumerate_from i bs ≡ enumerate_from i cs → bs ≡ cs
    same_branches i [] [] e = refl
    same_branches i [] (c ∷ cs) e = let never : [] ≡ (i, c) ∷ enumerate_from (i + 1) cs = e in cc
    same_branches i (b ∷ bs) [] e = let never : (i, b) ∷ enumerate_from (i + 1) bs ≡ [] = e in cc
    same_branches i (b ∷ bs) (c ∷ cs) e =
        let pair : (i, b) ≡ (i, c) = cc in
        let later : enumerate_from (i + 1) bs ≡ enumerate_from (i + 1) cs = cc in
        (λ j. ap (λ (p : Indexed). p.1) pair j ∷ same_branches (i + 1) bs cs later j)

as_no_branches : (old new : List ℕ) → ReadsSpelling (λ es. flat_map branch_line es) AreLines NoBranch old new None
    → ReadsSpelling branch_count_lines AreBranches NoBranch old new None
as_no_branches old new r = record {
  spelled = tt;
  read = λ cs after f g e. absurd (no_more (enumerate_from 0 cs) (r.read (enumerate_from 0 cs) after
      (cs, f, refl) g e).0);
}

pub branch_missing : (i : ℕ) (old rest mid any new : List ℕ) (bs : List BranchCounts)
    → SomeBranches old rest bs i → rest ≡ codes "branch" ++ mid
    → ReadsSpelling branch_line (IsBranchAt i) GoesOnAtAll rest any None
    → ReadsSpelling branch_count_lines AreBranches NoBranch old new None
branch_missing i old rest mid any new bs some there r = as_no_branches old new
    (one_missing old rest any new (enumerate_from 0 bs) None None some.along
    (one_more_branch i rest mid bs some.count there) r refl refl)

-- where no branch follows, all are read
pub branches_end : (i : ℕ) (old rest new : List ℕ) (bs : List BranchCounts) (t : Bool) → SomeBranches old rest bs i
    → 0 < i → i ≤ 8 → TakesText (codes "branch") rest new t → t ≡ false
    → ReadsSpelling branch_count_lines AreBranches NoBranch old new (Some bs)
branches_end i old rest new bs t some one few text gone =
    subst (λ x. ReadsSpelling branch_count_lines AreBranches NoBranch old x (Some bs)) (sym (text.unchanged gone))
    (as_branches old rest bs are (all_read old rest (enumerate_from 0 bs) some.along (bs, are, refl)
    (λ z zs after w g e. true≢false (sym (text.read (spaced_four (as_four z) ++ (flat_map branch_line zs ++ after))
    (split z zs after e)).0 ∙ gone))))
  where
    are : AreBranches bs
    are =
        let c = some.count in
        let low : 1 ≤ length bs = omega arith in
        let high : length bs ≤ 8 = omega arith in (All-from_recursion SmallBranch bs some.small, low, high)

    split : (z : Indexed) (zs : List Indexed) (after : List ℕ) → rest ≡ branch_line z ++
        (flat_map branch_line zs ++ after)
        → rest ≡ codes "branch" ++ (spaced_four (as_four z) ++ (flat_map branch_line zs ++ after))
    split z zs after e = e ∙ append_assoc (codes "branch") (spaced_four (z.0, z.1.written, z.1.errors, z.1.optional))
        (flat_map branch_line zs ++ after)

-- no branch at all
pub no_branch_at_all : (old rest new : List ℕ) (t : Bool) → SomeBranches old rest [] 0
    → TakesText (codes "branch") rest new t → t ≡ false
    → ReadsSpelling branch_count_lines AreBranches NoBranch old new None
no_branch_at_all old rest new t some text gone = record {
  spelled = tt;
  read = λ cs after f g e.
      let p = some.along.only (enumerate_from 0 cs) after (cs, f, refl) g e in
      absurd (first cs p.0 after f p.1 p.2);
}
  where
    first : (cs : List BranchCounts) (zs : List Indexed) (after : List ℕ) → AreBranches cs → enumerate_from 0 cs ≡ zs
        → rest ≡ flat_map branch_line zs ++ after → ⊥
    first [] zs after are e is = let few = are.1 in absurd (omega arith)
    first (c ∷ cs) zs after are e is =
        let whole : rest ≡ branch_line (0, c) ++ (flat_map branch_line (enumerate_from 1 cs) ++ after) =
        is ∙ ap (λ es. flat_map branch_line es ++ after) (sym e)
        ∙ append_assoc (branch_line (0, c)) (flat_map branch_line (enumerate_from 1 cs)) after in
        let split = whole ∙ append_assoc (codes "branch") (spaced_four (0, c.written, c.errors, c.optional))
        (flat_map branch_line (enumerate_from 1 cs) ++ after) in
        true≢false (sym (text.read _ split).0 ∙ gone)

-- eight branches are all
pub eight_branches : (old rest : List ℕ) (bs : List BranchCounts) → SomeBranches old rest bs 8
    → ReadsSpelling branch_count_lines AreBranches NoBranch old rest (Some bs)
eight_branches old rest bs some = as_branches old rest bs are (all_read old rest (enumerate_from 0 bs) some.along
    (bs, are, refl)
    (λ z zs after w g e.
    let sizes : length (enumerate_from 0 bs ++ z ∷ zs) ≡ length w.0 = ap length w.2 ∙ length-enumerate_from 0 w.0 in
    let long = length-append (enumerate_from 0 bs) (z ∷ zs) in
    let front = length-enumerate_from 0 bs in
    let most = w.1.2 in let c = some.count in omega arith))
  where
    are : AreBranches bs
    are =
        let c = some.count in
        let low : 1 ≤ length bs = omega arith in
        let high : length bs ≤ 8 = omega arith in (All-from_recursion SmallBranch bs some.small, low, high)

-- ---- totals

-- totals are four numbers, and then the branches
abbrev pub totals_pairing : Pairing spaced_four SmallFour GoesOnAtAll (λ n bs. branch_count_lines bs)
    (λ n bs. AreBranches bs)
    (λ c. spaced_four (c.records, c.bad, c.rows, c.unrouted) ++ branch_count_lines c.branches) AreTotals NoBranch
totals_pairing = record {
  to = λ n bs. record { records = n.0; bad = n.1; rows = n.2; unrouted = n.3; branches = bs };
  first = λ c. (c.records, c.bad, c.rows, c.unrouted);
  second = λ c. c.branches;
  whole = λ c. refl;
  spells = λ n bs small are. refl;
  fits = λ n bs small are. (
    record { records = small.0; bad = small.1.0; rows = small.1.1.0; unrouted = small.1.1.1; branches = are.0 },
    are.1,
    are.2,
  );
  parts = λ c are. ((are.0.records, (are.0.bad, (are.0.rows, are.0.unrouted))), (are.0.branches, are.1, are.2));
  goes = λ n bs after small are g. tt;
}

pub totals_spelled : (c : Counts)
    → totals_text c ≡ codes "totals" ++ (spaced_four (c.records, c.bad, c.rows, c.unrouted)
    ++ branch_count_lines c.branches)
totals_spelled c = append_assoc (codes "totals") (spaced_four (c.records, c.bad, c.rows, c.unrouted))
    (branch_count_lines c.branches)

-- no branch at the first place
pub none_at_first : (i : ℕ) (old rest new : List ℕ) (bs : List BranchCounts) (t : Bool) → SomeBranches old rest bs i
    → i ≡ 0
    → TakesText (codes "branch") rest new t → t ≡ false
    → ReadsSpelling branch_count_lines AreBranches NoBranch old new None
none_at_first i old rest new [] t some first text gone =
    no_branch_at_all old rest new t (subst (SomeBranches old rest []) first some) text gone
none_at_first i old rest new (b ∷ bs) t some first text gone = let c = some.count in absurd (omega arith)
