-- Names that calls may be given, and the folder in which they are.
use Rattle.std.proofs.Common.{◌≡◌, ◌≢◌, ◌<◌, inl, inr, ℕ, zero, suc, true, false, not, ◌&&◌, nat_eq, List}
use Rattle.std.proofs.Common.{[], ◌∷◌, map, length, get_or, refl, sym, ap, ◌∙◌, arith, codes, append_assoc}
use Rattle.std.proofs.Common.{cond, None}
use Rattle.std.specs.List.{AllByRecursion, IsDistinct, flat_map, list_all}
use Rattle.std.specs.Str.{bytes_eq}
use Rattle.std.proofs.lemmas.Bool.{and_from, and_parts, true≢false, eq-eqb}
use Rattle.std.proofs.lemmas.List.{take_all}
use Rattle.std.proofs.lemmas.Slice.Eq.{bytes_eq-Decides}
use Rattle.gob_bytes.specs.Paths.{begins_with, staging, sequence_name, under}
use Rattle.gob_device.specs.Disk.{Files, after_remove}
use Rattle.gob_device.specs.Names.{IsPathname, is_pathname}
use Rattle.gob_device.proofs.Names.{name_before}
use Rattle.gob_recovery.specs.Commits.{OnlyBelow, staged_sequence}
use Rattle.gob_recovery.specs.Sequence.{CommitStep, WellFormed, is_file_name, is_lasting, is_staged}
use Rattle.gob_recovery.specs.Sequence.{move}
use Rattle.gob_recovery.specs.Sequence.{names_in, remove, step_fits}
use Rattle.gob_recovery.specs.Settle.{do_steps}
use Rattle.gob_recovery.proofs.Again.{Off, steps_off}
use Rattle.gob_recovery.proofs.Commits.{apart_below, sequence_staged}
use Rattle.gob_recovery.proofs.Spelled.{name_of_remove, names_of_move}
use Rattle.gob_recovery.proofs.Names.{file_pathname}
use Rattle.gob_seq.specs.Maps.{Finishes}
use Rattle.gob_seq.specs.Steps.{is_callable}

-- ---- the names of a job

pub staged_named : (job : List ℕ) → IsPathname job → IsPathname (staged_sequence job)
staged_named job named = name_before (staging job) (codes "seq") (name_before job (47 ∷ codes "stage/") named refl) refl

pub sequence_named : (job : List ℕ) → IsPathname job → IsPathname (sequence_name job)
sequence_named job named = name_before job (47 ∷ codes "seq") named refl

pub staged_is : (job : List ℕ) → under job (codes "stage/seq") ≡ staged_sequence job
staged_is job = sym (append_assoc job (47 ∷ codes "stage/") (codes "seq"))

-- ---- the names of steps

callable_each : (job : List ℕ) (steps : List CommitStep) → list_all (step_fits job) steps ≡ true
    → IsDistinct bytes_eq (flat_map names_in steps) → list_all is_callable steps ≡ true
unfolding IsDistinct
callable_each job [] fits differ = refl
callable_each job (move a b ∷ ss) fits ((own, p), (q, rest)) =
    let f = and_parts (step_fits job (move a b)) (list_all (step_fits job) ss) fits in
    let named = names_of_move job a b f.0 in
    and_from _ _ (and_from _ _ (and_from _ _ (file_pathname a named.0) (file_pathname b named.1)) (ap not own))
    (callable_each job ss f.1 rest)
callable_each job (remove a ∷ ss) fits (p, rest) =
    let f = and_parts (step_fits job (remove a)) (list_all (step_fits job) ss) fits in
    and_from _ _ (file_pathname a (name_of_remove job a f.0)) (callable_each job ss f.1 rest)

pub callable : (job : List ℕ) (steps : List CommitStep) → WellFormed job steps → list_all is_callable steps ≡ true
callable job steps fits = callable_each job steps fits.each fits.differ

pub callable_at : {X : Type 0} (f : X → CommitStep) (xs : List X) (i : ℕ) (x : X) → i < length xs → x ≡ get_or xs i x
    → list_all is_callable (map f xs) ≡ true → is_callable (f x) ≡ true
callable_at f [] i x below is all = absurd (omega (arith, below))
callable_at f (y ∷ ys) zero x below is all =
    ap (λ z. is_callable (f z)) is ∙ (and_parts (is_callable (f y)) (list_all is_callable (map f ys)) all).0
callable_at f (y ∷ ys) (suc i) x below is all =
    callable_at f ys i x (omega (arith, below)) is (and_parts (is_callable (f y)) (list_all is_callable (map f ys))
    all).1

pub move_named : (a b : List ℕ) → is_callable (move a b) ≡ true → IsPathname a × IsPathname b
move_named a b e = and_parts (is_pathname a) (is_pathname b) (and_parts (is_pathname a && is_pathname b) _ e).0

pub move_apart : (a b : List ℕ) → is_callable (move a b) ≡ true → a ≢ b
move_apart a b e = λ same.
    let differ : not (bytes_eq a b) ≡ true = (and_parts (is_pathname a && is_pathname b) _ e).1 in
    absurd (true≢false (sym differ ∙ ap not ((bytes_eq-Decides a b).1 same)))

-- ---- the folder of the job

staging_under : (job name : List ℕ) → begins_with (staging job) name ≡ true → begins_with (under job []) name ≡ true
staging_under [] [] e = absurd (true≢false (sym e))
staging_under [] (b ∷ name) e = and_from (nat_eq 47 b) true (and_parts (nat_eq 47 b) _ e).0 refl
staging_under (j ∷ job) [] e = absurd (true≢false (sym e))
staging_under (j ∷ job) (b ∷ name) e =
    let p = and_parts (nat_eq j b) (begins_with (staging job) name) e in
    and_from (nat_eq j b) (begins_with (under job []) name) p.0 (staging_under job name p.1)

not_staged_outside : (job name : List ℕ) → begins_with (under job []) name ≡ false
    → begins_with (staging job) name ≡ false
not_staged_outside job name out = elim (begins_with (staging job) name) as
    (λ b. begins_with (staging job) name ≡ b → b ≡ false) [
      | true ↦ λ e. absurd (true≢false (sym (staging_under job name e) ∙ out))
      | false ↦ λ e. refl
    ] refl

pub below_job : (job : List ℕ) (m n : Files) → OnlyBelow (staging job) m n → OnlyBelow (under job []) m n
below_job job m n below = λ name out. below name (not_staged_outside job name out)

pub sequence_below : (job : List ℕ) → begins_with (under job []) (sequence_name job) ≡ true
sequence_below [] = refl
sequence_below (j ∷ job) = and_from (nat_eq j j) (begins_with (under job []) (sequence_name job)) (eq-eqb j j refl)
    (sequence_below job)

pub staged_below : (job : List ℕ) → begins_with (under job []) (staged_sequence job) ≡ true
staged_below job = staging_under job (staged_sequence job) (sequence_staged job)

source_inside : (job name : List ℕ) → is_staged job name ≡ true → begins_with (under job []) name ≡ true
source_inside job name e = staging_under job name (and_parts (begins_with (staging job) name) _ e).0

target_inside : (job name : List ℕ) → is_lasting job name ≡ true → begins_with (under job []) name ≡ true
target_inside job name e = (and_parts (begins_with (under job []) name) _
    (and_parts _ (not (bytes_eq name (sequence_name job))) e).0).0

step_inside : (job : List ℕ) (s : CommitStep) (name : List ℕ) → step_fits job s ≡ true
    → begins_with (under job []) name ≡ false
    → Off s name
step_inside job (move a b) name fits out =
    let p = and_parts (is_staged job a && is_lasting job b && is_file_name a) (is_file_name b) fits in
    let q = and_parts (is_staged job a && is_lasting job b) (is_file_name a) p.0 in
    let r = and_parts (is_staged job a) (is_lasting job b) q.0 in (
      apart_below (under job []) a name (source_inside job a r.0) out,
      (apart_below (under job []) b name (target_inside job b r.1) out, tt),
    )
step_inside job (remove a) name fits out =
    let p = and_parts (is_lasting job a) (is_file_name a) fits in
    (apart_below (under job []) a name (target_inside job a p.0) out, tt)

steps_inside : (job : List ℕ) (steps : List CommitStep) (name : List ℕ) → list_all (step_fits job) steps ≡ true
    → begins_with (under job []) name ≡ false → AllByRecursion (λ t. Off t name) steps
steps_inside job [] name fits out = tt
steps_inside job (s ∷ ss) name fits out =
    let p = and_parts (step_fits job s) (list_all (step_fits job) ss) fits in
    (step_inside job s name p.0 out, steps_inside job ss name p.1 out)

pub finishes_below : (job : List ℕ) (steps : List CommitStep) (m n : Files) → list_all (step_fits job) steps ≡ true
    → Finishes (sequence_name job) steps m n → OnlyBelow (under job []) m n
unfolding after_remove
finishes_below job steps m n fits (inl front) = λ name out.
    ap (λ (x : Files). x name) front.1 ∙ steps_off steps front.0 m name (steps_inside job steps name fits out)
finishes_below job steps m n fits (inr done) = λ name out.
    ap (λ (x : Files). x name) done
    ∙ (ap (λ b. cond b None (do_steps steps m name))
    (apart_below (under job []) (sequence_name job) name (sequence_below job) out)
    ∙ (sym (ap (λ (t : List CommitStep). do_steps t m name) (take_all (length steps) steps (omega arith)))
    ∙ steps_off steps (length steps) m name (steps_inside job steps name fits out)))
