-- The parameters that a declaration lists differ, where it is spelled by tokens.
use Rattle.std.proofs.Common.{ℕ, true, List, [], ◌∷◌, ◌++◌, Option, Some, None, Result, Ok, Err, IfOk, sym, subst}
use Rattle.std.specs.Prelude.{IfSome}
use Rattle.ath_syntax.specs.declared.directive.What.{What}
use Rattle.ath_syntax.specs.declared.directive.Directive.{Directive}
use Rattle.ath_syntax.specs.Nodes as syntax
use Rattle.ath_syntax.specs.Stands.{IsStatement, says_domain, says_datatype, says_declare, says_define, says_define_fun, says_assert, says_load, says_phrase, IsDirective, is_directive}
use Rattle.ath_syntax.specs.Tree.{Statement, DirectiveTree}
use Rattle.ath_grammar.specs.Tokens.{Placed}
use Rattle.ath_grammar.proofs.TypedTable.{StatementDiffers, DirectiveDiffers, declared_differ}
use Rattle.ath_reader.specs.declared.reader.SyntaxError.{SyntaxError}
use Rattle.ath_reader.specs.Ahead.{Ahead, a_token, the_end, a_fault, Follows, follows_token, follows_end, follows_fault}
use Rattle.ath_reader.specs.Reading.{Reading, Progress, reached, refused, IsWhole}
use Rattle.ath_reader.specs.Answering.{Answers}
use Rattle.ath_session.specs.Session.{ParamsDiffer}

-- tokens that may stand behind what comes next
some_follow : (next : Ahead) → (more : List Placed) × Follows next more
some_follow (a_token t known to) = (t ∷ [], follows_token)
some_follow the_end = ([], follows_end)
some_follow (a_fault kind byte) = ([], follows_fault)

pub whole_differs : (ts : List Placed) (next : Ahead) (d : DirectiveTree) → IsWhole ts next d → DirectiveDiffers d
whole_differs ts next d whole = let more = some_follow next in declared_differ true (ts ++ more.0) d more.0 (whole more.0 more.1)

statement_differs : {s : syntax.Nodes} {w : What} {x : Statement} → IsStatement s w x → StatementDiffers x → ParamsDiffer w
statement_differs says_domain h = tt
statement_differs says_datatype h = tt
statement_differs says_declare h = h
statement_differs (says_define k) h = tt
statement_differs (says_define_fun k) h = tt
statement_differs (says_assert k) h = tt
statement_differs says_load h = tt
statement_differs (says_phrase k) h = tt

directive_differs : {s : syntax.Nodes} {d : Directive} {t : DirectiveTree} → IsDirective s d t → DirectiveDiffers t → ParamsDiffer d.what
directive_differs (is_directive k) h = statement_differs k h

-- ---- what a reader answers
abbrev Differs : Result (Option Directive) SyntaxError → Type 0
Differs result = IfOk result (λ found. IfSome found (λ d. ParamsDiffer d.what))

pub answer_differs : (r : Reading) (p : Progress) (names : List (List ℕ)) (s : syntax.Nodes) (result : Result (Option Directive) SyntaxError) (new : Reading) (names' : List (List ℕ)) (s' : syntax.Nodes) → Answers r p names s result new names' s' → IfOk result (λ found. IfSome found (λ d. ParamsDiffer d.what))
answer_differs r (refused e) names s result new names' s' h = subst Differs (sym h.0) tt
answer_differs r (reached from) names s (Ok None) new names' s' h = tt
answer_differs r (reached from) names s (Ok (Some d)) new names' s' (to, found, grow, is) = directive_differs found.stands (whole_differs found.front.tokens found.front.next found.tree found.whole)
answer_differs r (reached from) names s (Err e) new names' s' h = tt
