-- The numbers of a line, one after the other.
use Rattle.std.proofs.Common.{◌<◌, ◌^◌, refl}
use Rattle.gob_text.specs.Words.{EndsWord, GoesOnAtAll}
use Rattle.gob_state.specs.Reads.{spaced_number, spaced_pair, spaced_triple, spaced_four, SmallPair, SmallTriple}
use Rattle.gob_state.specs.Reads.{SmallFour}
use Rattle.gob_state.proofs.Steps.{Pairing}

abbrev pub triple_pairing : Pairing spaced_number (λ n. n < 2 ^ 64) EndsWord (λ n p. spaced_pair p) (λ n p. SmallPair p)
    spaced_triple SmallTriple GoesOnAtAll
triple_pairing = record {
  to = λ n p. (n, p.0, p.1);
  first = λ t. t.0;
  second = λ t. (t.1, t.2);
  whole = λ t. refl;
  spells = λ n p f g. refl;
  fits = λ n p f g. (f, g);
  parts = λ t f. f;
  goes = λ n p after f g h. refl;
}

abbrev pub four_pairing : Pairing spaced_number (λ n. n < 2 ^ 64) EndsWord (λ n t. spaced_triple t)
    (λ n t. SmallTriple t)
    spaced_four SmallFour GoesOnAtAll
four_pairing = record {
  to = λ n t. (n, t.0, t.1, t.2);
  first = λ f. f.0;
  second = λ f. (f.1, f.2, f.3);
  whole = λ f. refl;
  spells = λ n t f g. refl;
  fits = λ n t f g. (f, g);
  parts = λ f g. g;
  goes = λ n t after f g h. refl;
}
