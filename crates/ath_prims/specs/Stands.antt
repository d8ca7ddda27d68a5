-- What the code's arguments, parts and answers stand for.
use Rattle.std.specs.Prelude.{◌≡◌, ℕ, ◌<◌, ◌≤◌, List, length, map, Option, Some, None, Result, Ok, Err, option_map}
use Rattle.std.specs.List.{All}
use Rattle.ath_sorts.specs.Signature.{Signature}
use Rattle.ath_trees.specs.declared.limits.TheConstants.{MOST_TERM_NODES, MOST_TERM_LEVELS}
use Rattle.ath_trees.specs.declared.node.SentId.{SentId}
use Rattle.ath_trees.specs.Measure.{sent_size, sent_depth}
use Rattle.ath_trees.specs.Tree.{Sent}
use Rattle.ath_trees.specs.WellSorted.{IsWellSorted}
use Rattle.ath_terms.specs.Trees.{Trees, sent_at, IsSent}
use Rattle.ath_calculus.specs.Derives.{truth, falsity}
use Rattle.ath_prims.specs.declared.applying.Argument.{Argument as Coded}
use Rattle.ath_prims.specs.declared.applying.PrimError.{PrimError}
use Rattle.ath_prims.specs.declared.applying.PrimError.TheVariants.{ArgCount, WrongKind, WrongShape, NotInBase, TooLarge, TooDeep, Memory}
use Rattle.ath_prims.specs.declared.bindings.Bindings.{Bindings}
use Rattle.ath_prims.specs.Applied.{Argument, Parts, Fitted, all_fit, no_sentence, no_shape, Answer, miscounted, wrong_kind, wrong_shape, not_in_base, concludes}

abbrev pub sentence_at : Trees → SentId → Sent
sentence_at s p = sent_at s.sents p.0

abbrev pub argument_at : Trees → Coded → Argument
argument_at s x = record { sentence = option_map (sentence_at s) x.sentence; holds = x.holds }

abbrev pub arguments_at : Trees → List Coded → List Argument
arguments_at s xs = map (argument_at s) xs

abbrev pub parts_at : Trees → Bindings → Parts
parts_at s e = record { a = option_map (sentence_at s) e.a; b = option_map (sentence_at s) e.b; c = option_map (sentence_at s) e.c }

-- a number that is there is one of the store
abbrev pub IsIn : Trees → Option SentId → Type 0
IsIn s (Some p) = p.0 < length s.sents
IsIn s None = Unit {0}

abbrev pub IsArgument : Trees → Coded → Type 0
IsArgument s x = IsIn s x.sentence

pub record AreIn (s : Trees) (e : Bindings) : Type 0 where
  pub a : IsIn s e.a
  pub b : IsIn s e.b
  pub c : IsIn s e.c

-- the sentence that is found is this one, or there is none
abbrev pub IsFound : Trees → Option SentId → Option Sent → Type 0
IsFound s None None = Unit {0}
IsFound s (Some p) (Some x) = IsSent s p.0 x
IsFound s None (Some x) = ⊥
IsFound s (Some p) None = ⊥

abbrev pub AreFound : Trees → Option (SentId × SentId) → Option (Sent × Sent) → Type 0
AreFound s None None = Unit {0}
AreFound s (Some p) (Some x) = IsSent s p.0.0 x.0 × IsSent s p.1.0 x.1
AreFound s None (Some x) = ⊥
AreFound s (Some p) None = ⊥

-- the parts that are found are these, or there are none
abbrev pub IsFit : Trees → Option Bindings → Option Parts → Type 0
IsFit s None None = Unit {0}
IsFit s (Some e) (Some x) = AreIn s e × (parts_at s e ≡ x)
IsFit s None (Some x) = ⊥
IsFit s (Some e) None = ⊥

-- what is concluded, and what the limits say of it
abbrev pub IsConcluded : Trees → Sent → Result SentId PrimError → Type 0
IsConcluded s x (Ok p) = IsSent s p.0 x
IsConcluded s x (Err (TooLarge n)) = (MOST_TERM_NODES < sent_size x) × (n ≡ sent_size x)
IsConcluded s x (Err (TooDeep n)) = (sent_size x ≤ MOST_TERM_NODES) × (MOST_TERM_LEVELS < sent_depth x) × (n ≡ sent_depth x)
IsConcluded s x (Err Memory) = Unit {0}
IsConcluded s x (Err e) = ⊥

abbrev pub IsRefused : Trees → Answer → PrimError → Type 0
IsRefused s (miscounted m n) (ArgCount k l) = (k ≡ m) × (l ≡ n)
IsRefused s (wrong_kind i) (WrongKind j) = j ≡ i
IsRefused s (wrong_shape i) (WrongShape j) = j ≡ i
IsRefused s (not_in_base x) (NotInBase p) = IsSent s p.0 x
IsRefused s o Memory = Unit {0}
IsRefused s o e = ⊥

abbrev pub IsAnswer : Trees → Answer → Result SentId PrimError → Type 0
IsAnswer s (concludes x) r = IsConcluded s x r
IsAnswer s o (Err e) = IsRefused s o e
IsAnswer s o (Ok p) = ⊥

abbrev pub AreFitted : Trees → Fitted → Result Bindings PrimError → Type 0
AreFitted s (all_fit x) (Ok e) = AreIn s e × (parts_at s e ≡ x)
AreFitted s (no_sentence i) (Err (WrongKind j)) = j ≡ i
AreFitted s (no_shape i) (Err (WrongShape j)) = j ≡ i
AreFitted s o r = ⊥

-- `true` and `false` are declared as every signature has them at first
pub record HasConstants (sig : Signature) : Type 0 where
  pub truth : IsWellSorted sig truth
  pub falsity : IsWellSorted sig falsity
