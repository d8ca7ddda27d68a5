-- What isn't built yet, and where. A phrase is built where it is a name, a variable, an ascription of a built phrase, an
-- application of a name to built phrases, or a call of `claim` or `mp` with built phrases.
use Rattle.std.specs.Prelude.{ℕ, Bool, true, false, ◌||◌, List, Option, Some, None, codes, if◌then◌else◌}
use Rattle.std.specs.Str.{bytes_eq}
use Rattle.ath_syntax.specs.declared.place.Pos.{Pos}
use Rattle.ath_syntax.specs.Tree.{Phrase, name_at, variable_at, ascribe_at, apply_at, call_at, Phrases, no_phrases, more_phrases, Statement, domain_is, datatype_is, declare_is, define_is, define_fun_is, assert_is, load_is, phrase_is}
use Rattle.ath_env.specs.LookUp.{text_of}
use Rattle.ath_syntax.specs.Places.{place}

-- whether a phrase is the name that is written so
abbrev pub is_name : List (List ℕ) → List ℕ → Phrase → Bool
is_name names text (name_at p n) = bytes_eq (text_of names n) text
is_name names text x = false

-- whether an application of the phrase may be built: it is a name
abbrev pub is_head : Phrase → Bool
is_head (name_at p n) = true
is_head x = false

abbrev pub is_method_name : List (List ℕ) → Phrase → Bool
is_method_name names x = is_name names (codes "mp") x || is_name names (codes "claim") x

-- the first place that is there
abbrev pub or_else : Option Pos → Option Pos → Option Pos
or_else None q = q
or_else (Some p) q = Some p

-- the place of the first node that isn't built, in order of text
abbrev mutual
  pub unbuilt : List (List ℕ) → Phrase → Option Pos
  unbuilt names (name_at p n) = None
  unbuilt names (variable_at p x k s) = None
  unbuilt names (ascribe_at p x s) = unbuilt names x
  unbuilt names (apply_at p f xs) = if is_head f then unbuilt_among names xs else Some p
  unbuilt names (call_at p f xs) = if is_method_name names f then unbuilt_among names xs else Some p
  unbuilt names x = Some (place x)

  pub unbuilt_among : List (List ℕ) → Phrases → Option Pos
  unbuilt_among names no_phrases = None
  unbuilt_among names (more_phrases x xs) = or_else (unbuilt names x) (unbuilt_among names xs)

-- a directive of a kind that isn't built is told at its own place
abbrev pub unbuilt_in : List (List ℕ) → Pos → Statement → Option Pos
unbuilt_in names at (domain_is n vs) = None
unbuilt_in names at (declare_is ns params args result) = None
unbuilt_in names at (assert_is None closed x) = unbuilt names x
unbuilt_in names at (assert_is (Some n) closed x) = Some at
unbuilt_in names at (load_is name) = None
unbuilt_in names at (phrase_is x) = unbuilt names x
unbuilt_in names at (datatype_is n vs cs) = Some at
unbuilt_in names at (define_is n x) = Some at
unbuilt_in names at (define_fun_is f xs x) = Some at
