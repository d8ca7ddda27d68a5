-- When a print is read back: what the names of a state and of a sentence are.
use Rattle.std.specs.Prelude.{◌≡◌, ℕ, ◌^◌, ◌<◌, Bool, true, false, not, ◌&&◌, ◌==◌, nat_le, nat_lt, List, [], ◌∷◌, length, slice_index, is_some}
use Rattle.std.specs.List.{list_all, list_any}
use Rattle.std.specs.Map.{lookup}
use Rattle.std.specs.Str.{bytes_eq}
use Rattle.ath_names.specs.declared.limits.TheConstants.{MOST_NAME_BYTES}
use Rattle.ath_sorts.specs.Signature.{Signature}
use Rattle.ath_sorts.specs.Validity.{IsValid}
use Rattle.ath_trees.specs.declared.node.Var.{Var}
use Rattle.ath_trees.specs.Tree.{Term, Terms, var, app, none, more, Sent, atom, equal, negated, joined, bound}
use Rattle.ath_trees.specs.WellSorted.{IsWellSorted}
use Rattle.ath_env.specs.LookUp.{text_of}
use Rattle.ath_tokens.specs.Bytes.{begins_part}
use Rattle.ath_tokens.specs.Spelling.{goes_on_word, is_part}
use Rattle.ath_lexemes.specs.Reserved.{reserved_words}
use Rattle.ath_print.specs.Prefix.{sent_printed}

-- a word that can be declared: it has no dot, isn't reserved, and isn't too long
abbrev pub is_word : List ℕ → Bool
is_word [] = false
is_word (b ∷ bs) = begins_part b && goes_on_word bs

abbrev pub is_name : List ℕ → Bool
is_name w = is_word w && (not (list_any (λ b. b == 46) w) && (not (is_some (lookup (bytes_eq w) reserved_words)) && nat_le (length w) MOST_NAME_BYTES))

-- a part of at most so many bytes, and an index of at most 18 digits
abbrev pub is_variable_name : List ℕ → Bool
is_variable_name w = is_part w && nat_le (length w) MOST_NAME_BYTES

abbrev pub is_readable_variable : List (List ℕ) → Var → Bool
is_readable_variable names v = is_variable_name (text_of names v.name) && nat_lt v.index (10 ^ 18)

abbrev mutual
  pub is_readable_term : List (List ℕ) → Term → Bool
  is_readable_term names (var v) = is_readable_variable names v
  is_readable_term names (app f sorts args) = are_readable_terms names args

  pub are_readable_terms : List (List ℕ) → Terms → Bool
  are_readable_terms names none = true
  are_readable_terms names (more t ts) = is_readable_term names t && are_readable_terms names ts

-- each variable of a sentence, bound or free
abbrev pub has_readable_variables : List (List ℕ) → Sent → Bool
has_readable_variables names (atom t) = is_readable_term names t
has_readable_variables names (equal s t) = is_readable_term names s && is_readable_term names t
has_readable_variables names (negated p) = has_readable_variables names p
has_readable_variables names (joined c p q) = has_readable_variables names p && has_readable_variables names q
has_readable_variables names (bound k v p) = is_readable_variable names v && has_readable_variables names p

-- the symbols and the sorts of a signature
abbrev pub has_symbol_names : List (List ℕ) → Signature → Bool
has_symbol_names names sig = list_all (λ d. is_name (text_of names d.name)) sig.symbols

abbrev pub has_sort_names : List (List ℕ) → Signature → Bool
has_sort_names names sig = list_all (λ e. is_name (text_of names e.0)) sig.sorts

-- `:=` is one token
abbrev pub has_no_equals : List (List ℕ) → Signature → Bool
has_no_equals names sig = list_all (λ e. not (slice_index (text_of names e.0) 0 == 61)) sig.sorts

-- a state's names and signature, as a session reaches them
pub record AreDeclared (names : List (List ℕ)) (sig : Signature) : Type 0 where
  pub valid : IsValid sig
  pub symbols : has_symbol_names names sig ≡ true
  pub sorts : has_sort_names names sig ≡ true

-- a sentence in that state; its line has no more sort variables than numbers can be written
pub record IsReadable (names : List (List ℕ)) (sig : Signature) (p : Sent) : Type 0 where
  pub sorted : IsWellSorted sig p
  pub variables : has_readable_variables names p ≡ true
  pub no_equals : has_no_equals names sig ≡ true
  pub few : length (sent_printed names sig [] p []).seen < 10 ^ 64
