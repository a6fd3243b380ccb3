-- What is left of the staged files once some of them were moved.
use Rattle.std.proofs.Common.{◌≡◌, ℕ, Bool, true, false, not, ◌&&◌, cond, List, [], ◌∷◌, codes, refl, sym}
use Rattle.std.proofs.Common.{ap, subst, ◌∙◌, append_assoc, None}
use Rattle.std.specs.List.{AllByRecursion, Contains, list_all}
use Rattle.std.specs.Str.{bytes_eq}
use Rattle.gob_bytes.specs.Paths.{begins_with, staging}
use Rattle.gob_bytes.proofs.Tables.{two_names}
use Rattle.gob_bytes.proofs.Paths.{under_front}
use Rattle.gob_device.specs.Disk.{after_remove}
use Rattle.gob_ledger.proofs.Members.{first_in, later_in}
use Rattle.gob_recovery.specs.Commits.{staged_sequence}
use Rattle.gob_recovery.specs.Sequence.{CommitStep, move, remove, is_file_name, is_lasting, is_staged}
use Rattle.gob_recovery.specs.Sequence.{step_fits}
use Rattle.gob_recovery.specs.Settle.{do_steps, without_staging}
use Rattle.gob_recovery.proofs.Again.{Off}
use Rattle.gob_recovery.proofs.Opened.{steps_still}
use Rattle.gob_commit.specs.Laws.{PartsKeepTheRest}

head_of : (a b : Bool) → (a && b) ≡ true → a ≡ true
head_of true b h = refl
head_of false b h = h

tail_of : (a b : Bool) → (a && b) ≡ true → b ≡ true
tail_of true b h = h
tail_of false b h = let no : false ≡ true = h in cc

second_of : (a b c d : Bool) → (a && b && c && d) ≡ true → b ≡ true
second_of a true c d h = refl
second_of true false c d h = h
second_of false false c d h = h

unstaged_of : (a b c : Bool) → (a && not b && c) ≡ true → b ≡ false
unstaged_of a false c h = refl
unstaged_of true true c h = sym h
unstaged_of false true c h = sym h

-- a staged name isn't that of a lasting file
staged_or_lasting : (job name x : List ℕ) → begins_with (staging job) name ≡ true → is_lasting job x ≡ true →
    bytes_eq name x ≡ false
staged_or_lasting job name x staged lasting = two_names name x (λ e.
    let here : begins_with (staging job) x ≡ true = subst (λ y. begins_with (staging job) y ≡ true) e staged in
    let away : begins_with (staging job) x ≡ false =
    unstaged_of _ (begins_with (staging job) x) _ lasting in
    let no : true ≡ false = sym here ∙ away in cc)

parts_off : (job : List ℕ) (steps : List CommitStep) (name : List ℕ) → list_all (step_fits job) steps ≡ true
    → begins_with (staging job) name ≡ true → ((target : List ℕ) → Contains steps (move name target) → ⊥)
    → AllByRecursion (λ t. Off t name) steps
parts_off job [] name fits staged unmoved = tt
parts_off job (move source target ∷ ss) name fits staged unmoved =
    let fit : step_fits job (move source target) ≡ true = head_of _ (list_all (step_fits job) ss) fits in
    let lasting : is_lasting job target ≡ true =
    second_of (is_staged job source) (is_lasting job target) (is_file_name source) (is_file_name target) fit in (
      (
        two_names name source
            (λ e. unmoved target (first_in (move source target) ss (move name target)
            (ap (λ x. move x target) (sym e)))),
        (staged_or_lasting job name target staged lasting, tt),
      ),
      parts_off job ss name (tail_of (step_fits job (move source target)) _ fits) staged
          (λ t h. unmoved t (later_in (move source target) ss (move name t) h)),
    )
parts_off job (remove gone ∷ ss) name fits staged unmoved =
    let fit : step_fits job (remove gone) ≡ true = head_of _ (list_all (step_fits job) ss) fits in (
      (staged_or_lasting job name gone staged (head_of (is_lasting job gone) (is_file_name gone) fit), tt),
      parts_off job ss name (tail_of (step_fits job (remove gone)) _ fits) staged
          (λ t h. unmoved t (later_in (remove gone) ss (move name t) h)),
    )

sequence_is_staged : (job : List ℕ) → begins_with (staging job) (staged_sequence job) ≡ true
sequence_is_staged job =
    ap (begins_with (staging job)) (append_assoc job (47 ∷ codes "stage/") (codes "seq"))
    ∙ under_front job (codes "stage/") (codes "stage/seq")

pub parts_keep : PartsKeepTheRest
unfolding after_remove without_staging
parts_keep job steps m fits = record {
  staged = λ name away.
      let other : bytes_eq name (staged_sequence job) ≡ false = two_names name (staged_sequence job) (λ e.
      let no : true ≡ false = sym (sequence_is_staged job) ∙ (ap (begins_with (staging job)) (sym e) ∙ away) in cc) in
      ap (λ b. cond b None (do_steps steps m name)) other
      ∙ sym (ap (λ b. cond b None (do_steps steps m name)) away);
  rest = λ name staged other unmoved.
      ap (λ b. cond b None (do_steps steps m name)) (two_names name (staged_sequence job) other)
      ∙ steps_still steps m name (parts_off job steps name fits.each staged unmoved);
}
