-- Natural lines are the lines between line ends.
use Rattle.std.proofs.Common.{◌≡◌, ℕ, Bool, true, false, cond, not, ◌&&◌, ◌||◌, nat_eq, List, [], ◌∷◌, ◌++◌, inl, inr}
use Rattle.std.proofs.Common.{refl, sym, ap, subst, ◌∙◌, append_assoc, append-nil}
use Rattle.std.specs.Str.{NonePass}
use Rattle.std.proofs.lemmas.Bool.{cond-false, eqb-true}
use Rattle.gob_props.specs.Properties.{is_line_end, natural_from, natural_lines}
use Rattle.gob_props.specs.Steps.{behind_line_end}
use Rattle.gob_props.specs.Laws.{has_no_end, begins_with_feed, IsEnd, AreNatural, NaturalLinesAreTheText}
use Rattle.gob_props.proofs.NaturalLemmas.{natural_cut, natural_whole}

-- ---- the natural lines of a text make it up

another_line : (l : List ℕ) (ls : List (List ℕ)) (end rest text : List ℕ) → has_no_end l ≡ true → IsEnd end rest →
    text ≡ l ++ (end ++ rest) → AreNatural ls rest → AreNatural (l ∷ ls) text
another_line l [] end rest text clear ends is natural = absurd natural
another_line l (m ∷ ls) end rest text clear ends is natural = (clear, (end, rest, ends, is, natural))

clear_more : (begun : List ℕ) (c : ℕ) → has_no_end begun ≡ true → is_line_end c ≡ false
    → has_no_end (begun ++ c ∷ []) ≡ true
clear_more [] c clear other = rw other
clear_more (b ∷ begun) c clear other = both (not (is_line_end b)) _ _ clear (λ rest. clear_more begun c rest other)
  where
    both : (x y z : Bool) → (x && y) ≡ true → (y ≡ true → z ≡ true) → (x && z) ≡ true
    both true y z is more = more is
    both false y z is more = is

-- one line end, where no line feed follows a carriage return
lone_end : (c : ℕ) (rest : List ℕ) → is_line_end c ≡ true → (nat_eq c 13 ≡ true → begins_with_feed rest ≡ false) →
    IsEnd (c ∷ []) rest
lone_end c rest ends alone = either (nat_eq c 10) refl (nat_eq c 13) refl ends
  where
    either : (a : Bool) → nat_eq c 10 ≡ a → (b : Bool) → nat_eq c 13 ≡ b → (a || b) ≡ true → IsEnd (c ∷ []) rest
    either true e b f is = inl (ap (λ n. n ∷ []) (eqb-true c 10 e))
    either false e true f is = inr (inr (ap (λ n. n ∷ []) (eqb-true c 13 f), alone f))
    either false e false f is = cc

natural : (text begun : List ℕ) → has_no_end begun ≡ true → AreNatural (natural_from begun text) (begun ++ text)
unfolding natural_from
natural [] begun clear = (clear, append-nil begun)
natural (c ∷ []) begun clear = either (is_line_end c) refl
  where
    either : (b : Bool) → is_line_end c ≡ b →
        AreNatural (cond b (begun ∷ [] ∷ []) ((begun ++ c ∷ []) ∷ [])) (begun ++ c ∷ [])
    either true ends = (clear, (c ∷ [], [], lone_end c [] ends (λ _. refl), refl, (refl, refl)))
    either false other = (clear_more begun c clear other, refl)
natural (c ∷ d ∷ cs) begun clear =
    pair (nat_eq c 13) refl (nat_eq d 10) refl (natural cs [] refl) (natural (d ∷ cs) [] refl)
    (λ other. subst (AreNatural (natural_from (begun ++ c ∷ []) (d ∷ cs))) (append_assoc begun (c ∷ []) (d ∷ cs))
    (natural (d ∷ cs) (begun ++ c ∷ []) (clear_more begun c clear other)))
  where
    not_both : (a b : Bool) → (a && b) ≡ false → a ≡ true → b ≡ false
    not_both true b apart is = apart
    not_both false b apart is = cc

    alone : (a b : Bool) → (a && b) ≡ false → nat_eq c 13 ≡ a → nat_eq d 10 ≡ b →
        AreNatural (natural_from [] (d ∷ cs)) (d ∷ cs) →
        (is_line_end c ≡ false → AreNatural (natural_from (begun ++ c ∷ []) (d ∷ cs)) (begun ++ c ∷ d ∷ cs)) →
        (e : Bool) → is_line_end c ≡ e →
        AreNatural (cond e (begun ∷ natural_from [] (d ∷ cs)) (natural_from (begun ++ c ∷ []) (d ∷ cs)))
        (begun ++ c ∷ d ∷ cs)
    alone a b apart x y rest more true ends =
        another_line begun (natural_from [] (d ∷ cs)) (c ∷ []) (d ∷ cs) _ clear
        (lone_end c (d ∷ cs) ends (λ cr. y ∙ not_both a b apart (sym x ∙ cr))) refl rest
    alone a b apart x y rest more false other = more other

    pair : (a : Bool) → nat_eq c 13 ≡ a → (b : Bool) → nat_eq d 10 ≡ b →
        AreNatural (natural_from [] cs) cs → AreNatural (natural_from [] (d ∷ cs)) (d ∷ cs) →
        (is_line_end c ≡ false → AreNatural (natural_from (begun ++ c ∷ []) (d ∷ cs)) (begun ++ c ∷ d ∷ cs)) →
        AreNatural
        (cond (a && b) (begun ∷ natural_from [] cs)
        (cond (is_line_end c) (begun ∷ natural_from [] (d ∷ cs)) (natural_from (begun ++ c ∷ []) (d ∷ cs))))
        (begun ++ c ∷ d ∷ cs)
    pair true x true y after rest more =
        another_line begun (natural_from [] cs) (13 ∷ 10 ∷ []) cs _ clear (inr (inl refl))
        (ap (λ n. begun ++ n ∷ d ∷ cs) (eqb-true c 13 x) ∙ ap (λ n. begun ++ 13 ∷ n ∷ cs) (eqb-true d 10 y)) after
    pair true x false y after rest more = alone true false refl x y rest more (is_line_end c) refl
    pair false x b y after rest more = alone false b refl x y rest more (is_line_end c) refl

-- ---- no other lines do

none_pass : (line : List ℕ) → has_no_end line ≡ true → NonePass is_line_end line
none_pass [] clear = tt
none_pass (c ∷ cs) clear = either (is_line_end c) refl clear (none_pass cs)
  where
    either : (b : Bool) → is_line_end c ≡ b → (not b && has_no_end cs) ≡ true →
        (has_no_end cs ≡ true → NonePass is_line_end cs) → (is_line_end c ≡ false) × NonePass is_line_end cs
    either true e clear more = cc
    either false e clear more = (e, more clear)

pub after_feed : (rest : List ℕ) → behind_line_end (10 ∷ rest) ≡ rest
after_feed [] = refl
after_feed (d ∷ rest) = refl

after_return : (rest : List ℕ) → begins_with_feed rest ≡ false → behind_line_end (13 ∷ rest) ≡ rest
after_return [] alone = refl
after_return (d ∷ rest) alone = cond-false _ _ _ alone

-- behind a line end its rest goes on
cut : (l end rest : List ℕ) → has_no_end l ≡ true → IsEnd end rest →
    natural_from [] (l ++ (end ++ rest)) ≡ l ∷ natural_from [] rest
cut l end rest clear (inl feed) =
    ap (λ e. natural_from [] (l ++ (e ++ rest))) feed
    ∙ natural_cut l 10 rest [] (none_pass l clear) refl ∙ ap (λ t. l ∷ natural_from [] t) (after_feed rest)
cut l end rest clear (inr (inl both)) =
    ap (λ e. natural_from [] (l ++ (e ++ rest))) both
    ∙ natural_cut l 13 (10 ∷ rest) [] (none_pass l clear) refl
cut l end rest clear (inr (inr (return, alone))) =
    ap (λ e. natural_from [] (l ++ (e ++ rest))) return
    ∙ natural_cut l 13 rest [] (none_pass l clear) refl ∙ ap (λ t. l ∷ natural_from [] t) (after_return rest alone)

unique : (lines : List (List ℕ)) (text : List ℕ) → AreNatural lines text → natural_lines text ≡ lines
unique [] text natural = absurd natural
unique (l ∷ []) text (clear, is) = ap natural_lines is ∙ natural_whole l [] (none_pass l clear)
unique (l ∷ m ∷ ls) text (clear, (end, rest, ends, is, natural)) =
    ap natural_lines is ∙ cut l end rest clear ends ∙ ap (λ more. l ∷ more) (unique (m ∷ ls) rest natural)

pub text_lines : NaturalLinesAreTheText
text_lines lines text = (
  λ is. subst (λ ls. AreNatural ls text) is (natural text [] refl),
  unique lines text,
)
