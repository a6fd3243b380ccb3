-- What can stand at the front of a sequence's text.
use Rattle.std.proofs.Common.{◌≡◌, ◌<◌, ℕ, true, false, not, List, []}
use Rattle.std.proofs.Common.{◌∷◌, ◌++◌, length, refl, sym, ap, subst, ◌∙◌, Some, None, IsAscii, IsUtf8, codes}
use Rattle.std.proofs.Common.{append_assoc, arith, length-append}
use Rattle.std.specs.declared.option.Option.{Option}
use Rattle.std.specs.List.{list_all, flat_map}
use Rattle.std.proofs.lemmas.Bool.{and_parts, and_from, true≢false}
use Rattle.std.proofs.lemmas.Bool.Decides.{nat_tests}
use Rattle.std.proofs.lemmas.List.{append-nil}
use Rattle.std.proofs.lemmas.Str.{IsUtf8-from_ascii}
use Rattle.std.proofs.lemmas.Str.Ascii.{IsAscii-cons, IsAscii-nil}
use Rattle.gob_text.specs.Words.{EndsWord, HasNoBreak, IsWord, Takes, TakesText, is_break}
use Rattle.gob_recovery.specs.Sequence.{CommitStep, move, remove, is_file_name, is_sequence_byte, step_fits, step_line}
use Rattle.gob_recovery.specs.Sequence.{Reads, WellFormed}
use Rattle.gob_recovery.proofs.Spelled.{cancel, first_line, move_body, move_end, move_remove, name_of_remove}
use Rattle.gob_recovery.proofs.Spelled.{names_of_move, remove_body, remove_end, whole_text}
use Rattle.gob_seq.specs.Steps.{NewIs, ReadIs}
use Rattle.gob_seq.specs.Reading.{BodyIs, BodyRead, IsBody, NameTaken, NoneTaken, StepTaken, is_named, last_line}

-- ---- names

name_ascii : (bytes : List ℕ) → list_all is_sequence_byte bytes ≡ true → IsAscii bytes
name_ascii [] all = IsAscii-nil
name_ascii (b ∷ bs) all =
    let p = and_parts (is_sequence_byte b) (list_all is_sequence_byte bs) all in
    IsAscii-cons b bs (grind (arith, nat_tests, p.0)) (name_ascii bs p.1)

pub file_utf8 : (name : List ℕ) → is_file_name name ≡ true → IsUtf8 name
file_utf8 [] e = absurd (true≢false (sym e))
file_utf8 (b ∷ bs) e = IsUtf8-from_ascii (b ∷ bs) (name_ascii (b ∷ bs) e)

no_break : (b : ℕ) → is_sequence_byte b ≡ true → not (is_break b) ≡ true
no_break b e = grind (arith, nat_tests)

no_breaks : (bytes : List ℕ) → list_all is_sequence_byte bytes ≡ true → HasNoBreak bytes
no_breaks [] all = refl
no_breaks (b ∷ bs) all =
    let p = and_parts (is_sequence_byte b) (list_all is_sequence_byte bs) all in
    and_from _ _ (no_break b p.0) (no_breaks bs p.1)

pub file_word : (name : List ℕ) → is_file_name name ≡ true → IsWord name
file_word [] e = absurd (true≢false (sym e))
file_word (b ∷ bs) e = (omega arith, no_breaks (b ∷ bs) e)

-- no word stands there
pub no_name : (old new : List ℕ) → Takes (λ w. w) IsWord EndsWord old new None → NameTaken old new None
no_name old new t = record {
  spelled = tt;
  read = λ name after named ends e. absurd (let no : None ≡ Some name =
      (t.read name after (file_word name named) ends e).0 in cc);
}

-- a word that isn't such a name
pub other_word : (old new word : List ℕ) → Takes (λ w. w) IsWord EndsWord old new (Some word)
    → (is_file_name word ≡ true → ⊥)
    → NameTaken old new None
other_word old new word t other = record {
  spelled = tt;
  read = λ name after named ends e.
      let is : word ≡ name = let both : Some word ≡ Some name = (t.read name after (file_word name named) ends e).0 in
      cc in
      absurd (other (ap is_file_name is ∙ named));
}

pub name_taken : (old new word : List ℕ) → Takes (λ w. w) IsWord EndsWord old new (Some word) → is_file_name word ≡ true
    → NameTaken old new (Some word)
name_taken old new word t named = record {
  spelled = (named, t.spelled.2);
  read = λ name after fits ends e. t.read name after (file_word name fits) ends e;
}

-- ---- a move

-- the text of a move that others may follow
record MoveRead (steps : List CommitStep) (n : ℕ) (after : List ℕ) : Type 0 where
  a : List ℕ
  b : List ℕ
  later : List CommitStep
  is : steps ≡ move a b ∷ later
  source : is_file_name a ≡ true
  target : is_file_name b ≡ true
  named : list_all is_named later ≡ true
  text : after ≡ a ++ 32 ∷ (b ++ 10 ∷ (flat_map step_line later ++ last_line n))

move_read : (steps : List CommitStep) (n : ℕ) (after : List ℕ) → IsBody steps n (codes "move " ++ after)
    → MoveRead steps n after
move_read [] n after body = absurd (move_end after n body.spelled)
move_read (remove a ∷ ss) n after body = absurd (move_remove after _ (body.spelled ∙ remove_body a ss n))
move_read (move a b ∷ ss) n after body =
    let p = and_parts (is_named (move a b)) (list_all is_named ss) body.named in
    let q = and_parts (is_file_name a) (is_file_name b) p.0 in
    record {
      a = a;
      b = b;
      later = ss;
      is = refl;
      source = q.0;
      target = q.1;
      named = p.1;
      text = cancel (codes "move ") after _ (body.spelled ∙ move_body a b ss n);
    }

-- where no step's line follows the first word
abbrev pub NoBody : List ℕ → Type 0
NoBody text = (steps : List CommitStep) (n : ℕ) → IsBody steps n text → ⊥

pub move_no_source : (old w1 : List ℕ) → NameTaken old w1 None → NoBody (codes "move " ++ old)
move_no_source old w1 t = λ steps n body.
    let r = move_read steps n old body in let no : None ≡ Some r.a = (t.read r.a _ r.source refl r.text).0 in cc

pub move_no_space : (old w1 w2 a : List ℕ) → NameTaken old w1 (Some a) → TakesText (codes " ") w1 w2 false
    → NoBody (codes "move " ++ old)
move_no_space old w1 w2 a t s = λ steps n body.
    let r = move_read steps n old body in
    true≢false (sym (s.read _ (t.read r.a _ r.source refl r.text).1).0)

pub move_no_target : (old w1 w2 w3 a : List ℕ) → NameTaken old w1 (Some a) → TakesText (codes " ") w1 w2 true
    → NameTaken w2 w3 None
    → NoBody (codes "move " ++ old)
move_no_target old w1 w2 w3 a t s u = λ steps n body.
    let r = move_read steps n old body in
    let no : None ≡ Some r.b = (u.read r.b _ r.target refl (s.read _ (t.read r.a _ r.source refl r.text).1).1).0 in cc

pub move_no_feed : (old w1 w2 w3 w4 a b : List ℕ) → NameTaken old w1 (Some a) → TakesText (codes " ") w1 w2 true
    → NameTaken w2 w3 (Some b) → TakesText (codes "\n") w3 w4 false → NoBody (codes "move " ++ old)
move_no_feed old w1 w2 w3 w4 a b t s u f = λ steps n body.
    let r = move_read steps n old body in
    true≢false (sym (f.read _ (u.read r.b _ r.target refl (s.read _ (t.read r.a _ r.source refl r.text).1).1).1).0)

move_spelled : (a b new : List ℕ) → step_line (move a b) ++ new ≡ codes "move " ++ (a ++ 32 ∷ (b ++ 10 ∷ new))
move_spelled a b new =
    ap (λ x. codes "move " ++ x) (append_assoc a (32 ∷ (b ++ 10 ∷ [])) new ∙ ap (λ y. a ++ 32 ∷ y)
    (append_assoc b (10 ∷ []) new))

pub move_taken : (old w1 w2 w3 w4 a b : List ℕ) → NameTaken old w1 (Some a) → TakesText (codes " ") w1 w2 true
    → NameTaken w2 w3 (Some b) → TakesText (codes "\n") w3 w4 true → StepTaken (codes "move " ++ old) w4 (move a b)
move_taken old w1 w2 w3 w4 a b t s u f = record {
  named = and_from (is_file_name a) (is_file_name b) t.spelled.0 u.spelled.0;
  spelled = ap (λ x. codes "move " ++ x)
      (t.spelled.1 ∙ (ap (λ x. a ++ x) (s.spelled refl) ∙
      (ap (λ x. a ++ 32 ∷ x) u.spelled.1 ∙ ap (λ x. a ++ 32 ∷ (b ++ x)) (f.spelled refl))))
      ∙ sym (move_spelled a b w4);
  only = λ steps n body.
      let r = move_read steps n old body in
      let first = t.read r.a _ r.source refl r.text in
      let space = s.read _ first.1 in
      let second = u.read r.b _ r.target refl space.1 in
      let feed = f.read _ second.1 in
      let same_a : a ≡ r.a = let both : Some a ≡ Some r.a = first.0 in cc in
      let same_b : b ≡ r.b = let both : Some b ≡ Some r.b = second.0 in cc in (
        r.later,
        r.is ∙ (λ i. move (sym same_a i) (sym same_b i) ∷ r.later),
        record
            { named = r.named; spelled = feed.1 },
      );
}

-- ---- a removal

record RemoveRead (steps : List CommitStep) (n : ℕ) (after : List ℕ) : Type 0 where
  a : List ℕ
  later : List CommitStep
  is : steps ≡ remove a ∷ later
  name : is_file_name a ≡ true
  named : list_all is_named later ≡ true
  text : after ≡ a ++ 10 ∷ (flat_map step_line later ++ last_line n)

remove_read : (steps : List CommitStep) (n : ℕ) (after : List ℕ) → IsBody steps n (codes "remove " ++ after)
    → RemoveRead steps n after
remove_read [] n after body = absurd (remove_end after n body.spelled)
remove_read (move a b ∷ ss) n after body = absurd (move_remove _ after (sym (move_body a b ss n) ∙ sym body.spelled))
remove_read (remove a ∷ ss) n after body =
    let p = and_parts (is_named (remove a)) (list_all is_named ss) body.named in
    record {
      a = a;
      later = ss;
      is = refl;
      name = p.0;
      named = p.1;
      text = cancel (codes "remove ") after _ (body.spelled ∙ remove_body a ss n);
    }

pub remove_no_name : (old w1 : List ℕ) → NameTaken old w1 None → NoBody (codes "remove " ++ old)
remove_no_name old w1 t = λ steps n body.
    let r = remove_read steps n old body in let no : None ≡ Some r.a = (t.read r.a _ r.name refl r.text).0 in cc

pub remove_no_feed : (old w1 w2 a : List ℕ) → NameTaken old w1 (Some a) → TakesText (codes "\n") w1 w2 false
    → NoBody (codes "remove " ++ old)
remove_no_feed old w1 w2 a t f = λ steps n body.
    let r = remove_read steps n old body in true≢false (sym (f.read _ (t.read r.a _ r.name refl r.text).1).0)

pub remove_taken : (old w1 w2 a : List ℕ) → NameTaken old w1 (Some a) → TakesText (codes "\n") w1 w2 true
    → StepTaken (codes "remove " ++ old) w2 (remove a)
remove_taken old w1 w2 a t f = record {
  named = t.spelled.0;
  spelled = ap (λ x. codes "remove " ++ x)
      (t.spelled.1 ∙ (ap (λ x. a ++ x) (f.spelled refl) ∙ sym (append_assoc a (10 ∷ []) w2)));
  only = λ steps n body.
      let r = remove_read steps n old body in
      let first = t.read r.a _ r.name refl r.text in
      let feed = f.read _ first.1 in
      let same_a : a ≡ r.a = let both : Some a ≡ Some r.a = first.0 in cc in
      (r.later, r.is ∙ ap (λ x. remove x ∷ r.later) (sym same_a), record { named = r.named; spelled = feed.1 });
}

-- ---- neither

pub none_taken : (old w1 w2 : List ℕ) → TakesText (codes "move ") old w1 false → TakesText (codes "remove ") w1 w2 false
    → NoneTaken old w2
none_taken old w1 w2 t u = record {
  unchanged = u.unchanged refl ∙ t.unchanged refl;
  only = λ steps n body. none steps n body;
}
  where
    none : (steps : List CommitStep) (n : ℕ) → IsBody steps n old → steps ≡ []
    none [] n body = refl
    none (move a b ∷ ss) n body = absurd (true≢false (sym (t.read _ (body.spelled ∙ move_body a b ss n)).0))
    none (remove a ∷ ss) n body =
        absurd (true≢false (sym (u.read _ (t.unchanged refl ∙ (body.spelled ∙ remove_body a ss n))).0))

-- ---- many lines

-- the lines of these steps were taken off, and the text can't begin with those of others
pub record ReadUpTo (whole rest : List ℕ) (steps : List CommitStep) : Type 0 where
  pub named : list_all is_named steps ≡ true
  pub spelled : whole ≡ flat_map step_line steps ++ rest
  pub only : (ss : List CommitStep) (n : ℕ) → IsBody ss n whole
      → (later : List CommitStep) × (ss ≡ steps ++ later) × IsBody later n rest

pub none_read : (whole : List ℕ) → ReadUpTo whole whole []
none_read whole = record { named = refl; spelled = refl; only = λ ss n body. (ss, refl, body) }

all_named : (steps : List CommitStep) (s : CommitStep) → list_all is_named steps ≡ true → is_named s ≡ true
    → list_all is_named (steps ++ s ∷ []) ≡ true
all_named [] s all named = and_from (is_named s) true named refl
all_named (t ∷ ts) s all named =
    let p = and_parts (is_named t) (list_all is_named ts) all in
    and_from (is_named t) (list_all is_named (ts ++ s ∷ [])) p.0 (all_named ts s p.1 named)

more_lines : (steps : List CommitStep) (s : CommitStep) (rest : List ℕ)
    → flat_map step_line (steps ++ s ∷ []) ++ rest ≡ flat_map step_line steps ++ (step_line s ++ rest)
more_lines [] s rest = ap (λ x. x ++ rest) (append-nil (step_line s))
more_lines (t ∷ ts) s rest =
    append_assoc (step_line t) (flat_map step_line (ts ++ s ∷ [])) rest
    ∙ (ap (λ x. step_line t ++ x) (more_lines ts s rest)
    ∙ sym (append_assoc (step_line t) (flat_map step_line ts) (step_line s ++ rest)))

pub one_read : (whole rest new : List ℕ) (steps : List CommitStep) (s : CommitStep) → ReadUpTo whole rest steps
    → StepTaken rest new s → ReadUpTo whole new (steps ++ s ∷ [])
one_read whole rest new steps s r t = record {
  named = all_named steps s r.named t.named;
  spelled = r.spelled ∙ (ap (λ x. flat_map step_line steps ++ x) t.spelled ∙ sym (more_lines steps s new));
  only = λ ss n body.
      let a = r.only ss n body in
      let b = t.only a.0 n a.2 in
      (b.0, a.1 ∙ (ap (λ x. steps ++ x) b.1 ∙ sym (append_assoc steps (s ∷ []) b.0)), b.2);
}

pub all_read : (whole rest new : List ℕ) (steps : List CommitStep) → ReadUpTo whole rest steps → NoneTaken rest new
    → new ≡ last_line (length steps) → BodyRead whole steps
all_read whole rest new steps r none last = record {
  body = record {
    named = r.named;
    spelled = r.spelled ∙ ap (λ x. flat_map step_line steps ++ x) (sym none.unchanged ∙ last);
  };
  only = λ others n body.
      let a = r.only others n body in
      a.1 ∙ (ap (λ x. steps ++ x) (none.only a.0 n a.2) ∙ append-nil steps);
}

pub no_last : (whole rest new : List ℕ) (steps : List CommitStep) → ReadUpTo whole rest steps → NoneTaken rest new
    → (new ≡ last_line (length steps) → ⊥) → (ss : List CommitStep) → IsBody ss (length ss) whole → ⊥
no_last whole rest new steps r none other ss body =
    let a = r.only ss (length ss) body in
    let empty = none.only a.0 (length ss) a.2 in
    let same : ss ≡ steps = a.1 ∙ (ap (λ x. steps ++ x) empty ∙ append-nil steps) in
    let rest_is : rest ≡ last_line (length ss) = a.2.spelled ∙ ap
    (λ (x : List CommitStep). flat_map step_line x ++ last_line (length ss)) empty in
    other (none.unchanged ∙ (rest_is ∙ ap (λ (x : List CommitStep). last_line (length x)) same))

pub no_more : (whole rest : List ℕ) (steps : List CommitStep) → ReadUpTo whole rest steps → NoBody rest
    → (ss : List CommitStep) → IsBody ss (length ss) whole → ⊥
no_more whole rest steps r none ss body = let a = r.only ss (length ss) body in none a.0 (length ss) a.2

-- a line has a byte
pub shorter : (old new : List ℕ) (s : CommitStep) → StepTaken old new s → length new < length old
shorter old new (move a b) t = omega (arith, ap length t.spelled, length-append (step_line (move a b)) new)
shorter old new (remove a) t = omega (arith, ap length t.spelled, length-append (step_line (remove a)) new)

-- ---- the whole text

named_fits : (job : List ℕ) (steps : List CommitStep) → list_all (step_fits job) steps ≡ true
    → list_all is_named steps ≡ true
named_fits job [] fits = refl
named_fits job (move a b ∷ ss) fits =
    let p = and_parts (step_fits job (move a b)) (list_all (step_fits job) ss) fits in
    let q = names_of_move job a b p.0 in
    and_from _ _ (and_from (is_file_name a) (is_file_name b) q.0 q.1) (named_fits job ss p.1)
named_fits job (remove a ∷ ss) fits =
    let p = and_parts (step_fits job (remove a)) (list_all (step_fits job) ss) fits in
    and_from _ _ (name_of_remove job a p.0) (named_fits job ss p.1)

-- what follows the first line of a text
body_of : (job bytes old rest : List ℕ) (steps : List CommitStep) → old ≡ bytes → TakesText first_line old rest true
    → Reads job bytes steps → IsBody steps (length steps) rest
body_of job bytes old rest steps is t reads = record {
  named = named_fits job steps reads.fits.each;
  spelled = (t.read _ (is ∙ (reads.spelled ∙ whole_text steps))).1;
}

pub no_first_line : (job bytes old rest : List ℕ) → old ≡ bytes → TakesText first_line old rest false
    → (steps : List CommitStep)
    → Reads job bytes steps → ⊥
no_first_line job bytes old rest is t steps reads = true≢false
    (sym (t.read _ (is ∙ (reads.spelled ∙ whole_text steps))).0)

pub no_body : (job bytes old rest : List ℕ) → old ≡ bytes → TakesText first_line old rest true → BodyIs rest None
    → (steps : List CommitStep) → Reads job bytes steps → ⊥
no_body job bytes old rest is t none steps reads = none steps (body_of job bytes old rest steps is t reads)

pub made_read : (job bytes old rest : List ℕ) (steps : List CommitStep) (made : Option (List CommitStep)) → old ≡ bytes
    → TakesText first_line old rest true → BodyIs rest (Some steps) → NewIs job steps made → ReadIs job bytes made
made_read job bytes old rest steps None is t body new = λ others reads.
    let same = body.only others (length others) (body_of job bytes old rest others is t reads) in
    new (subst (WellFormed job) same reads.fits)
made_read job bytes old rest steps (Some s) is t body new = subst (Reads job bytes) (sym new.0) (record {
  spelled = sym is ∙ (t.spelled refl ∙ (ap (λ x. first_line ++ x) body.body.spelled ∙ sym (whole_text steps)));
  fits = new.1;
})
