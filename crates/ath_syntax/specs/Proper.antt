-- Trees of which nodes can be made: parts are of the kinds that the grammar gives, lists aren't empty and names differ
-- where they must, and no node has more than 4194304 parts and names.
use Rattle.std.specs.Prelude.{◌≡◌, ℕ, ◌+◌, ◌*◌, ◌<◌, ◌≤◌, length, Bool, true, false, Option, Some, None}
use Rattle.std.specs.List.{IsDistinct}
use Rattle.ath_syntax.specs.Fits.{IsSomeWord, ParamsDiffer, most}
use Rattle.ath_syntax.specs.Size.{patterns_size}
use Rattle.ath_syntax.specs.Tree.{Pattern, any_pattern, name_pattern, string_pattern, list_pattern, list_of_pattern, app_pattern, some_pattern, Patterns, no_patterns, more_patterns, Phrase, name_at, variable_at, string_at, list_at, ascribe_at, apply_at, call_at, lambda_at, method_at, let_at, letrec_at, match_at, check_at, try_at, seq_at, assume_at, absurd_at, pick_any_at, pick_witness_at, induct_at, cases_at, conclude_at, Phrases, no_phrases, more_phrases, Bindings, no_bindings, more_bindings, Clauses, no_clauses, more_clauses, Branches, no_branches, more_branches, Otherwise, no_else, else_phrase, is_deduction, phrases_deduce, clauses_deduce, branches_deduce, Statement, domain_is, datatype_is, declare_is, define_is, define_fun_is, assert_is, load_is, phrase_is, DirectiveTree, directive_at, same_name, bound_names}

abbrev mutual
  pub ProperPattern : Pattern → Type 0
  ProperPattern any_pattern = Unit {0}
  ProperPattern (name_pattern n) = Unit {0}
  ProperPattern (string_pattern s) = Unit {0}
  ProperPattern (list_pattern ps) = ProperPatterns ps
  ProperPattern (list_of_pattern p q) = ProperPattern p × ProperPattern q
  ProperPattern (app_pattern n ps) = ProperPatterns ps
  ProperPattern (some_pattern k n) = IsSomeWord k

  pub ProperPatterns : Patterns → Type 0
  ProperPatterns no_patterns = Unit {0}
  ProperPatterns (more_patterns p ps) = ProperPattern p × ProperPatterns ps

abbrev pub phrases_count : Phrases → ℕ
phrases_count no_phrases = 0
phrases_count (more_phrases x xs) = 1 + phrases_count xs

abbrev pub bindings_count : Bindings → ℕ
bindings_count no_bindings = 0
bindings_count (more_bindings n x bs) = 1 + bindings_count bs

abbrev pub clauses_count : Clauses → ℕ
clauses_count no_clauses = 0
clauses_count (more_clauses p x cs) = 1 + clauses_count cs

abbrev pub clauses_patterns : Clauses → Patterns
clauses_patterns no_clauses = no_patterns
clauses_patterns (more_clauses p x cs) = more_patterns p (clauses_patterns cs)

abbrev pub branches_count : Branches → ℕ
branches_count no_branches = 0
branches_count (more_branches e x bs) = 1 + branches_count bs

abbrev pub otherwise_count : Otherwise → ℕ
otherwise_count no_else = 0
otherwise_count (else_phrase x) = 1

-- a phrase of this kind, or of either
abbrev pub IsOfKind : Option Bool → Phrase → Type 0
IsOfKind None x = Unit {0}
IsOfKind (Some d) x = is_deduction x ≡ d

-- a binding of a `let` is a deduction only where the `let` is one
abbrev pub bound_kind : Bool → Option Bool
bound_kind true = None
bound_kind false = Some false

abbrev pub is_closure : Phrase → Bool
is_closure (lambda_at p xs x) = true
is_closure (method_at p xs x) = true
is_closure x = false

abbrev mutual
  pub Proper : Phrase → Type 0
  Proper (name_at p n) = Unit {0}
  Proper (variable_at p x k s) = Unit {0}
  Proper (string_at p s) = Unit {0}
  Proper (list_at p xs) = ProperPhrases (Some false) xs × (phrases_count xs ≤ most)
  Proper (ascribe_at p x s) = (is_deduction x ≡ false) × Proper x
  Proper (apply_at p f xs) = (is_deduction f ≡ false) × Proper f × ProperPhrases (Some false) xs × (1 + phrases_count xs ≤ most)
  Proper (call_at p f xs) = (is_deduction f ≡ false) × Proper f × ProperPhrases None xs × (1 + phrases_count xs ≤ most)
  Proper (lambda_at p xs x) = ParamsDiffer xs × (is_deduction x ≡ false) × Proper x × (1 + length xs ≤ most)
  Proper (method_at p xs x) = ParamsDiffer xs × (is_deduction x ≡ true) × Proper x × (1 + length xs ≤ most)
  Proper (let_at p bs x) = Proper x × (0 < bindings_count bs) × ProperBindings (bound_kind (is_deduction x)) bs × (1 + 2 * bindings_count bs ≤ most)
  Proper (letrec_at p bs x) = Proper x × (0 < bindings_count bs) × ProperClosures bs × IsDistinct same_name (bound_names bs) × (1 + 2 * bindings_count bs ≤ most)
  Proper (match_at p x cs) = (is_deduction x ≡ false) × Proper x × (0 < clauses_count cs) × ProperClauses (clauses_deduce cs) cs × (1 + clauses_count cs + patterns_size (clauses_patterns cs) ≤ most)
  Proper (check_at p bs o) = (0 < branches_count bs) × ProperBranches (branches_deduce bs) bs × ProperOtherwise (branches_deduce bs) o × (otherwise_count o + 2 * branches_count bs ≤ most)
  Proper (try_at p xs) = (0 < phrases_count xs) × ProperPhrases (Some (phrases_deduce xs)) xs × (phrases_count xs ≤ most)
  Proper (seq_at p xs) = (0 < phrases_count xs) × ProperPhrases (Some true) xs × (phrases_count xs ≤ most)
  Proper (assume_at p n x y) = (is_deduction x ≡ false) × Proper x × (is_deduction y ≡ true) × Proper y
  Proper (absurd_at p n x y) = (is_deduction x ≡ false) × Proper x × (is_deduction y ≡ true) × Proper y
  Proper (pick_any_at p ns x) = (is_deduction x ≡ true) × Proper x × (1 + length ns ≤ most)
  Proper (pick_witness_at p n x y) = Proper x × (is_deduction y ≡ true) × Proper y
  Proper (induct_at p x cs) = (is_deduction x ≡ false) × Proper x × (0 < clauses_count cs) × ProperClauses true cs × (1 + clauses_count cs + patterns_size (clauses_patterns cs) ≤ most)
  Proper (cases_at p x cs) = (is_deduction x ≡ false) × Proper x × (0 < clauses_count cs) × ProperClauses true cs × (1 + clauses_count cs + patterns_size (clauses_patterns cs) ≤ most)
  Proper (conclude_at p n x y) = (is_deduction x ≡ false) × Proper x × (is_deduction y ≡ true) × Proper y

  pub ProperPhrases : Option Bool → Phrases → Type 0
  ProperPhrases k no_phrases = Unit {0}
  ProperPhrases k (more_phrases x xs) = IsOfKind k x × Proper x × ProperPhrases k xs

  pub ProperBindings : Option Bool → Bindings → Type 0
  ProperBindings k no_bindings = Unit {0}
  ProperBindings k (more_bindings n x bs) = IsOfKind k x × Proper x × ProperBindings k bs

  -- each name is bound to a `lambda` or a `method`
  pub ProperClosures : Bindings → Type 0
  ProperClosures no_bindings = Unit {0}
  ProperClosures (more_bindings n x bs) = (is_closure x ≡ true) × Proper x × ProperClosures bs

  pub ProperClauses : Bool → Clauses → Type 0
  ProperClauses d no_clauses = Unit {0}
  ProperClauses d (more_clauses p x cs) = ProperPattern p × (is_deduction x ≡ d) × Proper x × ProperClauses d cs

  pub ProperBranches : Bool → Branches → Type 0
  ProperBranches d no_branches = Unit {0}
  ProperBranches d (more_branches e x bs) = (is_deduction e ≡ false) × Proper e × (is_deduction x ≡ d) × Proper x × ProperBranches d bs

  pub ProperOtherwise : Bool → Otherwise → Type 0
  ProperOtherwise d no_else = Unit {0}
  ProperOtherwise d (else_phrase x) = (is_deduction x ≡ d) × Proper x

abbrev pub ProperStatement : Statement → Type 0
ProperStatement (domain_is n vs) = Unit {0}
ProperStatement (datatype_is n vs cs) = Unit {0}
ProperStatement (declare_is ns vs ss s) = Unit {0}
ProperStatement (define_is n x) = Proper x
ProperStatement (define_fun_is f xs x) = Proper x
ProperStatement (assert_is n closed x) = (is_deduction x ≡ false) × Proper x
ProperStatement (load_is s) = Unit {0}
ProperStatement (phrase_is x) = Proper x

abbrev pub ProperDirective : DirectiveTree → Type 0
ProperDirective (directive_at p s) = ProperStatement s
