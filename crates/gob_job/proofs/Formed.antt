-- What an element is, by the word in front.
use Rattle.std.proofs.Common.{◌≡◌, ℕ, Bool, true, false, cond, List, [], ◌∷◌, ◌≤◌, ◌-◌, length, take, drop, get_or}
use Rattle.std.proofs.Common.{length-drop, Bor, codes, arith, Option, Some, None, refl, sym, ap, ◌∙◌}
use Rattle.std.specs.Option.{option_and_then, option_map}
use Rattle.std.specs.Str.{bytes_eq}
use Rattle.gob_bytes.specs.Tables.{at_name}
use Rattle.std.proofs.lemmas.List.{take_all}
use Rattle.gob_plan.specs.declared.checks.Check.{Check}
use Rattle.gob_plan.specs.declared.steps.StepSpec.{StepSpec}
use Rattle.gob_job.specs.declared.steps.StepWord.{StepWord}
use Rattle.gob_plan.specs.declared.plan.PlaceSpec.{PlaceSpec}
use Rattle.gob_jobs.specs.Words.{both}
use Rattle.gob_jobs.specs.Elements.{check_words as checks_worded, column_word}
use Rattle.gob_job.specs.Cuts.{texts_of}
use Rattle.gob_jobs.specs.Elements.{Form, form_in, check_forms, step_forms, rule_forms, place_forms, branch_counters}
use Rattle.gob_job.specs.declared.lists.PlaceWord.TheVariants as word
use Rattle.gob_job.specs.StepForms.{check_word_table, step_words, rule_words, count_words, place_words, check_form}
use Rattle.gob_job.specs.StepForms.{step_form, rule_form, place_form, counter_of}
use Rattle.gob_job.proofs.WordTables.{formed_by, at_changed}

pub check_formed : (first : List ℕ) (more : List (List ℕ))
    → form_in check_forms (first ∷ more) ≡ option_and_then (λ w. check_form w more) (at_name check_word_table first)
check_formed first more = formed_by check_form check_word_table first more

pub step_formed : (first : List ℕ) (more : List (List ℕ))
    → form_in step_forms (first ∷ more) ≡ option_and_then (λ w. step_form w more) (at_name step_words first)
step_formed first more = formed_by step_form step_words first more

pub rule_formed : (branches : ℕ) (first : List ℕ) (more : List (List ℕ))
    → form_in (rule_forms branches) (first ∷ more) ≡ option_and_then (λ w. rule_form branches w more)
    (at_name rule_words first)
rule_formed branches first more = formed_by (rule_form branches) rule_words first more

pub counted : (name : List ℕ) → at_name branch_counters name ≡ option_map counter_of (at_name count_words name)
counted name = at_changed counter_of count_words name

-- ---- words of an element, by their places

-- what stands behind the first so many words
rest_is : (words : List (Bor (List ℕ))) (n : ℕ) → take (length words - n) (drop n words) ≡ drop n words
rest_is words n = take_all (length words - n) (drop n words) (omega (arith, length-drop n words))

-- a first word, a column and the words behind it
check_parts : (negated : Bool) (words : List (Bor (List ℕ))) (d : Bor (List ℕ)) → 2 ≤ length words
    → checks_worded negated (texts_of words)
    ≡ both (λ name c. record { negated = negated; column = name; check = c }) (column_word (get_or words 1 d).now)
    (form_in check_forms ((get_or words 0 d).now ∷ texts_of (drop 2 words)))
check_parts negated [] d some = absurd (omega arith)
check_parts negated (first ∷ []) d some = absurd (omega arith)
check_parts negated (first ∷ column ∷ more) d some = refl

check_made : (negated : Bool) (words : List (Bor (List ℕ))) (d : Bor (List ℕ)) (name : List ℕ) (found : Option Check)
    → 2 ≤ length words
    → column_word (get_or words 1 d).now ≡ Some name
    → form_in check_forms ((get_or words 0 d).now ∷ texts_of (take (length words - 2) (drop 2 words))) ≡ found
    → checks_worded negated (texts_of words) ≡ both (λ n c. record { negated = negated; column = n; check = c })
    (Some name) found
check_made negated words d name found some column is =
    check_parts negated words d some
    ∙ (λ i. both (λ n c. record { negated = negated; column = n; check = c }) (column i)
    ((ap (λ r. form_in check_forms ((get_or words 0 d).now ∷ texts_of r)) (sym (rest_is words 2)) ∙ is) i))

pub check_none : (negated : Bool) (words : List (Bor (List ℕ))) (d : Bor (List ℕ)) (name : List ℕ) → 2 ≤ length words
    → column_word (get_or words 1 d).now ≡ Some name
    → form_in check_forms ((get_or words 0 d).now ∷ texts_of (take (length words - 2) (drop 2 words))) ≡ None
    → None ≡ checks_worded negated (texts_of words)
check_none negated words d name some column is = sym (check_made negated words d name None some column is)

pub check_some : (negated : Bool) (words : List (Bor (List ℕ))) (d : Bor (List ℕ)) (name : List ℕ) (c : Check)
    → 2 ≤ length words
    → column_word (get_or words 1 d).now ≡ Some name
    → form_in check_forms ((get_or words 0 d).now ∷ texts_of (take (length words - 2) (drop 2 words))) ≡ Some c
    → Some (record { negated = negated; column = name; check = c }) ≡ checks_worded negated (texts_of words)
check_some negated words d name c some column is = sym (check_made negated words d name (Some c) some column is)

-- a first word and those behind it
step_parts : (words : List (Bor (List ℕ))) (d : Bor (List ℕ)) → 1 ≤ length words
    → form_in step_forms (texts_of words) ≡ option_and_then (λ w. step_form w (texts_of (drop 1 words)))
    (at_name step_words (get_or words 0 d).now)
step_parts [] d some = absurd (omega arith)
step_parts (first ∷ more) d some = step_formed first.now (texts_of more)

pub step_made : (words : List (Bor (List ℕ))) (d : Bor (List ℕ)) (word : StepWord) (found : Option StepSpec)
    → 1 ≤ length words
    → at_name step_words (get_or words 0 d).now ≡ Some word
    → found ≡ step_form word (texts_of (take (length words - 1) (drop 1 words)))
    → found ≡ form_in step_forms (texts_of words)
step_made words d word found some named is =
    is ∙ (ap (λ r. step_form word (texts_of r)) (rest_is words 1)
    ∙ sym (step_parts words d some ∙ ap (option_and_then (λ w. step_form w (texts_of (drop 1 words)))) named))

-- ---- places

plain_same : (more : List (List ℕ)) → form_in place_forms (codes "plain" ∷ more) ≡ place_form word.Plain more
plain_same [] = refl
plain_same (w ∷ ws) = refl

day_same : (more : List (List ℕ)) → form_in place_forms (codes "day" ∷ more) ≡ place_form word.Day more
day_same [] = refl
day_same (c ∷ []) = refl
day_same (c ∷ d ∷ ws) = refl

chosen : (v w : Bool) (more : List (List ℕ)) (f g : Form PlaceSpec) → f more ≡ place_form word.Plain more
    → g more ≡ place_form word.Day more
    → option_and_then (λ form. form more) (cond v (Some f) (cond w (Some g) None))
    ≡ option_and_then (λ x. place_form x more) (cond v (Some word.Plain) (cond w (Some word.Day) None))
chosen true w more f g plain day = plain
chosen false true more f g plain day = day
chosen false false more f g plain day = refl

pub place_formed : (first : List ℕ) (more : List (List ℕ))
    → form_in place_forms (first ∷ more) ≡ option_and_then (λ w. place_form w more) (at_name place_words first)
place_formed first more = chosen (bytes_eq first (codes "plain")) (bytes_eq first (codes "day")) more _ _
    (plain_same more) (day_same more)
