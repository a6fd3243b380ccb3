-- Whether bytes read as a sequence, and whether a map settles, is decided.
use Rattle.std.proofs.Common.{◌≡◌, ◌≢◌, ◌⊎◌, ⊎_elim, inl, inr, ℕ, zero, suc, ◌+◌, ◌≤◌, true, false}
use Rattle.std.proofs.Common.{List, [], ◌∷◌, ◌++◌, length, refl, sym, ap, subst, ◌∙◌, Some, None, codes, arith}
use Rattle.std.proofs.Common.{length-append}
use Rattle.std.specs.declared.option.Option.{Option}
use Rattle.std.specs.List.{AllByRecursion, IsDistinct, list_all, flat_map}
use Rattle.std.specs.Str.{bytes_eq}
use Rattle.std.proofs.lemmas.Bool.{and_parts, and_from, ne_eqb, true≢false, not_from_false}
use Rattle.std.proofs.lemmas.Bool.{cases_Bool, cases_eq}
use Rattle.std.proofs.lemmas.Slice.Eq.{bytes_eq-Decides}
use Rattle.gob_bytes.specs.Paths.{sequence_name}
use Rattle.gob_device.specs.Disk.{Files, File, contents_of}
use Rattle.gob_recovery.specs.Sequence.{CommitStep, move, remove, names_in, step_fits}
use Rattle.gob_recovery.specs.Sequence.{Reads}
use Rattle.gob_recovery.specs.Settle.{can_do, without_staging, after_finish, Settles, IsDamaged, sequence, lost}
use Rattle.gob_recovery.specs.Laws.{SettlesOrIsDamaged}
use Rattle.gob_recovery.proofs.Spelled.{Free, parted, cancel, free_name, names_of_move, name_of_remove, body, last_line}
use Rattle.gob_recovery.proofs.Spelled.{first_line, move_body, remove_body, move_remove, move_end, remove_end}
use Rattle.gob_recovery.proofs.Spelled.{same_steps, whole_text}

-- the bytes have this front, or they don't
begins : (word bytes : List ℕ) → ((rest : List ℕ) × (bytes ≡ word ++ rest)) ⊎ ((rest : List ℕ) → bytes ≢ word ++ rest)
begins [] bytes = inl (bytes, refl)
begins (w ∷ ws) [] = inr (λ rest e. cc)
begins (w ∷ ws) (b ∷ bs) = ⊎_elim
    (λ e. ⊎_elim (λ x. inl (x.0, λ i. e i ∷ x.1 i)) (λ no. inr
    (λ rest f. no rest (let tail : bs ≡ ws ++ rest = cc in tail))) (begins ws bs))
    (λ no. inr (λ rest f. no (let head : b ≡ w = cc in head)))
    (cases_eq b w)

-- a byte stands in them, with the rest behind the first one, or it doesn't
cut : (sep : ℕ) (bytes : List ℕ) → ((front rest : List ℕ) × (bytes ≡ front ++ sep ∷ rest) × Free sep front)
    ⊎ ((front rest : List ℕ) → bytes ≢ front ++ sep ∷ rest)
cut sep [] = inr none
  where
    none : (front rest : List ℕ) → [] ≢ front ++ sep ∷ rest
    none [] rest e = cc
    none (f ∷ front) rest e = cc
cut sep (b ∷ bs) = ⊎_elim
    (λ e. inl ([], bs, ap (λ c. c ∷ bs) e, refl))
    (λ apart. ⊎_elim
    (λ x. inl (b ∷ x.0, x.1, ap (λ t. b ∷ t) x.2, and_from _ _ (not_from_false _ (ne_eqb b sep apart)) x.3))
    (λ no. inr (none apart no))
    (cut sep bs))
    (cases_eq b sep)
  where
    none : b ≢ sep → ((front rest : List ℕ) → bs ≢ front ++ sep ∷ rest) → (front rest : List ℕ) → b ∷ bs ≢ front
        ++ sep ∷ rest
    none apart never [] rest e = apart (let head : b ≡ sep = cc in head)
    none apart never (f ∷ front) rest e = never front rest (let tail : bs ≡ front ++ sep ∷ rest = cc in tail)

-- the bytes are the lines of steps that fit, behind so many, and the last line
abbrev IsBody : List ℕ → ℕ → List ℕ → List CommitStep → Type 0
IsBody job k bytes ss = (list_all (step_fits job) ss ≡ true) × (bytes ≡ body ss (k + length ss))

abbrev Bodied : List ℕ → ℕ → List ℕ → Type 0
Bodied job k bytes = ((ss : List CommitStep) × IsBody job k bytes ss)
    ⊎ ((ss : List CommitStep) → IsBody job k bytes ss → ⊥)

counted : (k : ℕ) (ss : List CommitStep) → suc k + length ss ≡ k + suc (length ss)
counted k ss = omega arith

move_is : (job : List ℕ) (k : ℕ) (bytes a b rest : List ℕ) → bytes ≡ codes "move " ++ (a ++ 32 ∷ (b ++ 10 ∷ rest))
    → step_fits job (move a b) ≡ true
    → (ss : List CommitStep) → IsBody job (suc k) rest ss → IsBody job k bytes (move a b ∷ ss)
move_is job k bytes a b rest e fits ss (all, same) = (
  and_from _ _ fits all,
  e ∙ (ap (λ t. codes "move " ++ (a ++ 32 ∷ (b ++ 10 ∷ t))) (same ∙ ap (body ss) (counted k ss))
      ∙ sym (move_body a b ss (k + suc (length ss)))),
)

remove_is : (job : List ℕ) (k : ℕ) (bytes a rest : List ℕ) → bytes ≡ codes "remove " ++ (a ++ 10 ∷ rest)
    → step_fits job (remove a) ≡ true
    → (ss : List CommitStep) → IsBody job (suc k) rest ss → IsBody job k bytes (remove a ∷ ss)
remove_is job k bytes a rest e fits ss (all, same) = (
  and_from _ _ fits all,
  e ∙ (ap (λ t. codes "remove " ++ (a ++ 10 ∷ t)) (same ∙ ap (body ss) (counted k ss))
      ∙ sym (remove_body a ss (k + suc (length ss)))),
)

-- what bytes that begin as a move have for steps
record MoveParts (job : List ℕ) (k : ℕ) (after : List ℕ) (ss : List CommitStep) : Type 0 where
  a : List ℕ
  b : List ℕ
  rest : List CommitStep
  steps : ss ≡ move a b ∷ rest
  fits : step_fits job (move a b) ≡ true
  text : after ≡ a ++ 32 ∷ (b ++ 10 ∷ body rest (suc k + length rest))
  others : IsBody job (suc k) (body rest (suc k + length rest)) rest

move_parts : (job : List ℕ) (k : ℕ) (bytes after : List ℕ) → bytes ≡ codes "move " ++ after → (ss : List CommitStep)
    → IsBody job k bytes ss → MoveParts job k after ss
move_parts job k bytes after e [] (all, same) = absurd (move_end after (k + 0) (sym e ∙ same))
move_parts job k bytes after e (remove a ∷ ss) (all, same) = absurd
    (move_remove after _ (sym e ∙ (same ∙ remove_body a ss (k + suc (length ss)))))
move_parts job k bytes after e (move a b ∷ ss) (all, same) =
    let p = and_parts (step_fits job (move a b)) (list_all (step_fits job) ss) all in
    record {
      a = a;
      b = b;
      rest = ss;
      steps = refl;
      fits = p.0;
      text = cancel (codes "move ") _ _ (sym e ∙ (same ∙ (move_body a b ss (k + suc (length ss))
          ∙ ap (λ n. codes "move " ++ (a ++ 32 ∷ (b ++ 10 ∷ body ss n))) (sym (counted k ss)))));
      others = (p.1, refl);
    }

record RemoveParts (job : List ℕ) (k : ℕ) (after : List ℕ) (ss : List CommitStep) : Type 0 where
  a : List ℕ
  rest : List CommitStep
  fits : step_fits job (remove a) ≡ true
  text : after ≡ a ++ 10 ∷ body rest (suc k + length rest)
  others : IsBody job (suc k) (body rest (suc k + length rest)) rest

remove_parts : (job : List ℕ) (k : ℕ) (bytes after : List ℕ) → bytes ≡ codes "remove " ++ after → (ss : List CommitStep)
    → IsBody job k bytes ss → RemoveParts job k after ss
remove_parts job k bytes after e [] (all, same) = absurd (remove_end after (k + 0) (sym e ∙ same))
remove_parts job k bytes after e (move a b ∷ ss) (all, same) =
    absurd (move_remove _ after (sym (move_body a b ss (k + suc (length ss))) ∙ (sym same ∙ e)))
remove_parts job k bytes after e (remove a ∷ ss) (all, same) =
    let p = and_parts (step_fits job (remove a)) (list_all (step_fits job) ss) all in
    record {
      a = a;
      rest = ss;
      fits = p.0;
      text = cancel (codes "remove ") _ _ (sym e ∙ (same ∙ (remove_body a ss (k + suc (length ss))
          ∙ ap (λ n. codes "remove " ++ (a ++ 10 ∷ body ss n)) (sym (counted k ss)))));
      others = (p.1, refl);
    }

shorter_move : (fuel : ℕ) (bytes a b rest : List ℕ) → length bytes ≤ suc fuel → bytes ≡ codes "move "
    ++ (a ++ 32 ∷ (b ++ 10 ∷ rest)) → length rest ≤ fuel
shorter_move fuel bytes a b rest small e =
    omega (
      arith,
      small,
      ap length e,
      length-append (codes "move ") (a ++ 32 ∷ (b ++ 10 ∷ rest)),
      length-append a (32 ∷ (b ++ 10 ∷ rest)),
      length-append b (10 ∷ rest),
    )

shorter_remove : (fuel : ℕ) (bytes a rest : List ℕ) → length bytes ≤ suc fuel → bytes ≡ codes "remove "
    ++ (a ++ 10 ∷ rest) → length rest ≤ fuel
shorter_remove fuel bytes a rest small e =
    omega (arith, small, ap length e, length-append (codes "remove ") (a ++ 10 ∷ rest), length-append a (10 ∷ rest))

-- a move's names, and what is left, are determined
move_one : (job a b c d x y : List ℕ) → Free 32 a → Free 10 b → step_fits job (move c d) ≡ true → a
    ++ 32 ∷ (b ++ 10 ∷ x) ≡ c ++ 32 ∷ (d ++ 10 ∷ y) → (a ≡ c) × (b ≡ d) × (x ≡ y)
move_one job a b c d x y fa fb fits e =
    let names = names_of_move job c d fits in
    let first = parted 32 a c (b ++ 10 ∷ x) (d ++ 10 ∷ y) fa (free_name 32 c refl names.0) e in
    let second = parted 10 b d x y fb (free_name 10 d refl names.1) first.1 in
    (first.0, second.0, second.1)

same_fit : (job a b c d : List ℕ) → a ≡ c → b ≡ d → step_fits job (move c d) ≡ true → step_fits job (move a b) ≡ true
same_fit job a b c d e f fits = λ i. (ap (λ x. step_fits job (move x b)) e
    ∙ (ap (λ x. step_fits job (move c x)) f ∙ fits)) i

decided_body : (fuel k : ℕ) (job bytes : List ℕ) → length bytes ≤ fuel → Bodied job k bytes
decided_body zero k job bytes small = inr (λ ss is. empty ss is)
  where
    empty : (ss : List CommitStep) → IsBody job k bytes ss → ⊥
    empty [] (all, same) = omega (arith, small, ap length same)
    empty (move a b ∷ ss) (all, same) = omega (arith, small, ap length (same ∙ move_body a b ss (k + suc (length ss))))
    empty (remove a ∷ ss) (all, same) = omega (arith, small, ap length (same ∙ remove_body a ss (k + suc (length ss))))
decided_body (suc fuel) k job bytes small =
    let later : Later = λ rest less. decided_body fuel (suc k) job rest less in
    ⊎_elim (as_move later) (λ not_move. ⊎_elim (as_remove later) (λ not_remove. as_end not_move not_remove)
    (begins (codes "remove ") bytes)) (begins (codes "move ") bytes)
  where
    Later : Type 0
    Later = (rest : List ℕ) → length rest ≤ fuel → Bodied job (suc k) rest

    moved : Later → (after : List ℕ) → bytes ≡ codes "move " ++ after → (a more : List ℕ) → after ≡ a ++ 32 ∷ more
        → Free 32 a → (b rest : List ℕ) → more ≡ b ++ 10 ∷ rest → Free 10 b → Bodied job k bytes
    moved later after e a more f fa b rest g fb =
        let whole : after ≡ a ++ 32 ∷ (b ++ 10 ∷ rest) = f ∙ ap (λ t. a ++ 32 ∷ t) g in
        let text : bytes ≡ codes "move " ++ (a ++ 32 ∷ (b ++ 10 ∷ rest)) = e ∙ ap (λ t. codes "move " ++ t) whole in
        ⊎_elim
        (λ fits. ⊎_elim
        (λ x. inl (move a b ∷ x.0, move_is job k bytes a b rest text fits x.0 x.1))
        (λ no. inr (λ ss is.
        let p = move_parts job k bytes after e ss is in
        let one = move_one job a b p.a p.b rest _ fa fb p.fits (sym whole ∙ p.text) in
        no p.rest (p.others.0, one.2)))
        (later rest (shorter_move fuel bytes a b rest small text)))
        (λ unfit. inr (λ ss is.
        let p = move_parts job k bytes after e ss is in
        let one = move_one job a b p.a p.b rest _ fa fb p.fits (sym whole ∙ p.text) in
        true≢false (sym (same_fit job a b p.a p.b one.0 one.1 p.fits) ∙ unfit)))
        (cases_Bool (step_fits job (move a b)))

    as_move : Later → ((after : List ℕ) × (bytes ≡ codes "move " ++ after)) → Bodied job k bytes
    as_move later x = ⊎_elim
        (λ y. ⊎_elim
        (λ z. moved later x.0 x.1 y.0 y.1 y.2 y.3 z.0 z.1 z.2 z.3)
        (λ no. inr (λ ss is.
        let p = move_parts job k bytes x.0 x.1 ss is in
        let first = parted 32 y.0 p.a y.1 (p.b ++ 10 ∷ body p.rest (suc k + length p.rest)) y.3
        (free_name 32 p.a refl (names_of_move job p.a p.b p.fits).0) (sym y.2 ∙ p.text) in
        no p.b (body p.rest (suc k + length p.rest)) first.1))
        (cut 10 y.1))
        (λ no. inr (λ ss is. let p = move_parts job k bytes x.0 x.1 ss is in
        no p.a (p.b ++ 10 ∷ body p.rest (suc k + length p.rest)) p.text))
        (cut 32 x.0)

    as_remove : Later → ((after : List ℕ) × (bytes ≡ codes "remove " ++ after)) → Bodied job k bytes
    as_remove later x = ⊎_elim
        (λ y.
        let text : bytes ≡ codes "remove " ++ (y.0 ++ 10 ∷ y.1) = x.1 ∙ ap (λ t. codes "remove " ++ t) y.2 in
        ⊎_elim
        (λ fits. ⊎_elim
        (λ z. inl (remove y.0 ∷ z.0, remove_is job k bytes y.0 y.1 text fits z.0 z.1))
        (λ no. inr (λ ss is.
        let p = remove_parts job k bytes x.0 x.1 ss is in
        let one = parted 10 y.0 p.a y.1 (body p.rest (suc k + length p.rest)) y.3
        (free_name 10 p.a refl (name_of_remove job p.a p.fits)) (sym y.2 ∙ p.text) in
        no p.rest (p.others.0, one.1)))
        (later y.1 (shorter_remove fuel bytes y.0 y.1 small text)))
        (λ unfit. inr (λ ss is.
        let p = remove_parts job k bytes x.0 x.1 ss is in
        let one = parted 10 y.0 p.a y.1 (body p.rest (suc k + length p.rest)) y.3
        (free_name 10 p.a refl (name_of_remove job p.a p.fits)) (sym y.2 ∙ p.text) in
        true≢false (sym (ap (λ n. step_fits job (remove n)) one.0 ∙ p.fits) ∙ unfit)))
        (cases_Bool (step_fits job (remove y.0))))
        (λ no. inr (λ ss is. let p = remove_parts job k bytes x.0 x.1 ss is in
        no p.a (body p.rest (suc k + length p.rest)) p.text))
        (cut 10 x.0)

    neither : ((rest : List ℕ) → bytes ≢ codes "move " ++ rest) → ((rest : List ℕ) → bytes ≢ codes "remove " ++ rest)
        → (bytes ≢ last_line (k + 0)) → (ss : List CommitStep) → IsBody job k bytes ss → ⊥
    neither not_move not_remove not_end [] (all, same) = not_end same
    neither not_move not_remove not_end (move a b ∷ ss) (all, same) =
        not_move _ (same ∙ move_body a b ss (k + suc (length ss)))
    neither not_move not_remove not_end (remove a ∷ ss) (all, same) =
        not_remove _ (same ∙ remove_body a ss (k + suc (length ss)))

    as_end : ((rest : List ℕ) → bytes ≢ codes "move " ++ rest) → ((rest : List ℕ) → bytes ≢ codes "remove " ++ rest)
        → Bodied job k bytes
    as_end not_move not_remove = ⊎_elim
        (λ e. inl ([], (refl, (bytes_eq-Decides bytes (last_line (k + 0))).0 e)))
        (λ e. inr (neither not_move not_remove (λ same. true≢false
        (sym ((bytes_eq-Decides bytes (last_line (k + 0))).1 same) ∙ e))))
        (cases_Bool (bytes_eq bytes (last_line (k + 0))))

all_apart : (x : List ℕ) (ys : List (List ℕ)) → AllByRecursion (λ y. bytes_eq x y ≡ false) ys
    ⊎ (AllByRecursion (λ y. bytes_eq x y ≡ false) ys → ⊥)
all_apart x [] = inl tt
all_apart x (y ∷ ys) = ⊎_elim
    (λ e. inr (λ all. true≢false (sym e ∙ all.0)))
    (λ e. ⊎_elim (λ rest. inl (e, rest)) (λ no. inr (λ all. no all.1)) (all_apart x ys))
    (cases_Bool (bytes_eq x y))

distinct_or_not : (xs : List (List ℕ)) → IsDistinct bytes_eq xs ⊎ (IsDistinct bytes_eq xs → ⊥)
unfolding IsDistinct
distinct_or_not [] = inl tt
distinct_or_not (x ∷ xs) = ⊎_elim
    (λ a. ⊎_elim (λ d. inl (a, d)) (λ no. inr (λ d. no d.1)) (distinct_or_not xs))
    (λ no. inr (λ d. no d.0))
    (all_apart x xs)

abbrev pub ReadsOrNot : List ℕ → List ℕ → Type 0
ReadsOrNot job bytes = ((ss : List CommitStep) × Reads job bytes ss) ⊎ ((ss : List CommitStep) → Reads job bytes ss → ⊥)

read_body : (job bytes rest : List ℕ) → bytes ≡ first_line ++ rest → (ss : List CommitStep) → Reads job bytes ss
    → IsBody job 0 rest ss
read_body job bytes rest e ss reads = (
  reads.fits.each,
  cancel first_line rest (body ss (0 + length ss))
      (sym e ∙ (reads.spelled ∙ (whole_text ss ∙ ap (λ n. first_line ++ body ss n)
      (let z : length ss ≡ 0 + length ss = omega arith in z)))),
)

pub reads_or_not : (job bytes : List ℕ) → ReadsOrNot job bytes
reads_or_not job bytes = ⊎_elim behind (λ no. inr (λ ss reads.
    no (body ss (length ss)) (reads.spelled ∙ whole_text ss))) (begins first_line bytes)
  where
    found : (rest : List ℕ) → bytes ≡ first_line ++ rest → (ss : List CommitStep) → IsBody job 0 rest ss
        → ReadsOrNot job bytes
    found rest e ss is = ⊎_elim
        (λ d. inl (
          ss,
          record {
            spelled = e ∙ (ap (λ t. first_line ++ t) (is.1 ∙ ap (body ss)
                (let z : 0 + length ss ≡ length ss = omega arith in z)) ∙ sym (whole_text ss));
            fits = record { each = is.0; differ = d };
          },
        ))
        (λ no. inr (λ t reads.
        let other = read_body job bytes rest e t reads in
        no (subst (λ x. IsDistinct bytes_eq (flat_map names_in x)) (same_body t ss other is) reads.fits.differ)))
        (distinct_or_not (flat_map names_in ss))
      where
        same_body : (t s : List CommitStep) → IsBody job 0 rest t → IsBody job 0 rest s → t ≡ s
        same_body t s x y = same_steps job t s (0 + length t) (0 + length s) x.0 y.0 (sym x.1 ∙ y.1)

    behind : ((rest : List ℕ) × (bytes ≡ first_line ++ rest)) → ReadsOrNot job bytes
    behind x = ⊎_elim
        (λ y. found x.0 x.1 y.0 y.1)
        (λ no. inr (λ ss reads. no ss (read_body job bytes x.0 x.1 ss reads)))
        (decided_body (length x.0) 0 job x.0 (omega arith))

-- all steps can be done, or there is a first that can't
pub record LostStep (m : Files) (steps : List CommitStep) : Type 0 where
  pub before : List CommitStep
  pub source : List ℕ
  pub target : List ℕ
  pub after : List CommitStep
  pub whole : steps ≡ before ++ move source target ∷ after
  pub can : list_all (can_do m) before ≡ true
  pub cannot : can_do m (move source target) ≡ false

pub can_or_lost : (m : Files) (steps : List CommitStep) → (list_all (can_do m) steps ≡ true) ⊎ LostStep m steps
can_or_lost m [] = inl refl
can_or_lost m (remove name ∷ ss) = ⊎_elim
    (λ all. inl all)
    (λ l. inr (record {
      before = remove name ∷ l.before;
      source = l.source;
      target = l.target;
      after = l.after;
      whole =
          ap (λ t. remove name ∷ t) l.whole;
      can = l.can;
      cannot = l.cannot;
    }))
    (can_or_lost m ss)
can_or_lost m (move a b ∷ ss) = ⊎_elim
    (λ can. ⊎_elim
    (λ all. inl (and_from _ _ can all))
    (λ l. inr (record {
      before = move a b ∷ l.before;
      source = l.source;
      target = l.target;
      after = l.after;
      whole =
          ap (λ t. move a b ∷ t) l.whole;
      can = and_from _ _ can l.can;
      cannot = l.cannot;
    }))
    (can_or_lost m ss))
    (λ cannot. inr (record {
      before = [];
      source = a;
      target = b;
      after = ss;
      whole = refl;
      can = refl;
      cannot =
          cannot;
    }))
    (cases_Bool (can_do m (move a b)))

pub settles_or_damaged : SettlesOrIsDamaged
settles_or_damaged job m = standing (m (sequence_name job)) refl
  where
    standing : (o : Option File) → m (sequence_name job) ≡ o → ((settled : Files) × Settles job m settled)
        ⊎ ((name : List ℕ) × IsDamaged job m name)
    standing None e = inl (without_staging job m, inl (e, refl))
    standing (Some f) e = ⊎_elim
        (λ x. ⊎_elim
        (λ can. inl (after_finish job x.0 m, inr (x.0, record { file = f; here = e; reads = x.1 }, can, refl)))
        (λ l. inr (
          l.source,
          lost l.before l.source l.target l.after
              (record { file = f; here = e; reads = subst (Reads job (contents_of f)) l.whole x.1 }) l.can l.cannot,
        ))
        (can_or_lost m x.0))
        (λ no. inr (sequence_name job, sequence f e no))
        (reads_or_not job (contents_of f))
