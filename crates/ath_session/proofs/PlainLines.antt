-- The line of an event has one LF, at its end, where no name has one.
use Rattle.std.proofs.Common.{◌≡◌, ◌<◌, ◌+◌, ◌/◌, ◌%◌, ◌↔◌, ℕ, zero, suc, Bool, true, false, ◌||◌, ◌==◌, nat_lt, List, [], ◌∷◌, ◌++◌, map, length, Option, Some, None, refl, sym, ◌∙◌, ap, subst, take, codes, arith, if◌then◌else◌}
use Rattle.std.proofs.lemmas.Grind.{common_steps}
use Rattle.std.proofs.lemmas.List.Folds.{list_any-append}
use Rattle.std.specs.Prelude.{position, slice_index_or}
use Rattle.std.specs.List.{flat_map, list_any, AllByRecursion}
use Rattle.std.specs.Fmt.{decimal, digits, digits_onto, digit_glyph}
use Rattle.ath_sorts.specs.declared.sorts.Sym.{Sym}
use Rattle.ath_sorts.specs.declared.sorts.SVar.{SVar}
use Rattle.ath_sorts.specs.declared.sorts.Sort.{Sort, Var, Con}
use Rattle.ath_sorts.specs.declared.sorts.Sort.TheOpen as one
use Rattle.ath_sorts.specs.declared.sorts.Sort.TheVariants.{rolls-Var, rolls-Con}
use Rattle.ath_sorts.specs.declared.sorts.Sort.TheFolds.{fold-roll-Sort}
use Rattle.ath_sorts.specs.Signature.{Signature, symbol_of}
use Rattle.ath_sorts.specs.Sorts.{same_svar}
use Rattle.ath_sorts.proofs.SortLaws.{sort_induction}
use Rattle.ath_syntax.specs.declared.place.Pos.{Pos}
use Rattle.ath_trees.specs.declared.node.Var.{Var as Variable}
use Rattle.ath_trees.specs.declared.node.Conn.{Conn}
use Rattle.ath_trees.specs.declared.node.Conn.TheVariants.{Not, And, Or, If, Iff}
use Rattle.ath_trees.specs.declared.node.Quant.{Quant}
use Rattle.ath_trees.specs.declared.node.Quant.TheVariants.{Forall, Exists}
use Rattle.ath_trees.specs.SortsIn.{result_sort}
use Rattle.ath_trees.specs.Tree.{Term, Terms, var, app, none, more, Sent, atom, equal, negated, joined, bound, conn_of}
use Rattle.ath_trees.specs.Variables.{same_var}
use Rattle.ath_env.specs.Values.{Value, a_term, a_sentence, a_symbol, a_connective, a_quantifier, a_back, a_method}
use Rattle.ath_env.specs.LookUp.{text_of}
use Rattle.ath_print.specs.declared.fault.FaultKind.{FaultKind}
use Rattle.ath_print.specs.declared.fault.FaultKind.TheVariants.{BadUtf8, BadChar, OpenString, NameTooLong, Unexpected, Unclosed, KindMix, TooDeep, NotBuilt, Redeclared, UnknownSort, Arity, LooseParam, TooWide, SortTooLarge, Unbound, FileTooLong, TooManyLoads, LineTooLong, SortClash, ArgCount, NotBoolean, TooLarge, TooNested, WrongKind, WrongShape, NotInBase, NotApplicable, NotMethod, NotSentence}
use Rattle.ath_print.specs.Events.{Argument, sentence_named, term_named, sort_named, variable_named, name_named, number_named, Refusal, Event, domain_added, symbols_added, asserted, proved, shown, refused, exhausted, is_theorem}
use Rattle.ath_print.specs.Printers.{Printer, word, in_turn, spaced, item}
use Rattle.ath_print.specs.Prefix.{conn_text, quant_text, numbered, svar_printed, sort_step, sort_printed, index_text, var_text, with_sort, occurrence, leaves_unsaid, ascribed, term_printed, terms_printed, sent_printed}
use Rattle.ath_print.specs.Lines.{listed_after, listed, hex_digit, escaped, quoted, quoted_file, method_text, kind_text, argument_printed, refusal_text, shown_text, place_text, text_of_event, line_of}
use Rattle.ath_session.specs.Believed.{has_line_end, IsLine}

-- no byte is LF
pub record Plain (text : List ℕ) : Type 0 where
  pub free : has_line_end text ≡ false

pub plain : (text : List ℕ) → has_line_end text ≡ false → Plain text
plain text e = record { free = e }

or-false : (a b : Bool) → a ≡ false → b ≡ false → (a || b) ≡ false
or-false true b e f = absurd (cc)
or-false false b e f = f

pub plain-append : {xs ys : List ℕ} → Plain xs → Plain ys → Plain (xs ++ ys)
plain-append {xs} {ys} e f = record { free = list_any-append (λ b. b == 10) xs ys ∙ or-false (has_line_end xs) (has_line_end ys) e.free f.free }

pub plain-cons : (b : ℕ) {bs : List ℕ} → (b == 10) ≡ false → Plain bs → Plain (b ∷ bs)
plain-cons b {bs} e f = record { free = or-false (b == 10) (has_line_end bs) e f.free }

-- ---- numbers, and names of files
above : (n : ℕ) → 10 < n → (n == 10) ≡ false
above n h = grind (arith, common_steps)

hex-plain : (d : ℕ) → (hex_digit d == 10) ≡ false
hex-plain d = go (nat_lt d 10)
  where
    go : (b : Bool) → ((if b then 48 + d else 87 + d) == 10) ≡ false
    go true = above (48 + d) (omega arith)
    go false = above (87 + d) (omega arith)

escaped-plain : (b : ℕ) → Plain (escaped b)
escaped-plain b = by (b == 34) (b == 92) (b == 10) (b == 9) (nat_lt b 32 || b == 127) refl
  where
    by : (p q r s t : Bool) → (b == 10) ≡ r → Plain (if p then codes "\\\"" else if q then codes "\\\\" else if r then codes "\\n" else if s then codes "\\t" else if t then codes "\\x" ++ hex_digit (b / 16) ∷ hex_digit (b % 16) ∷ [] else b ∷ [])
    by true q r s t e = plain _ refl
    by false true r s t e = plain _ refl
    by false false true s t e = plain _ refl
    by false false false true t e = plain _ refl
    by false false false false true e = plain-append (plain (codes "\\x") refl) (plain-cons _ (hex-plain (b / 16)) (plain-cons _ (hex-plain (b % 16)) (plain [] refl)))
    by false false false false false e = plain-cons b e (plain [] refl)

all-escaped-plain : (text : List ℕ) → Plain (flat_map escaped text)
all-escaped-plain [] = plain [] refl
all-escaped-plain (b ∷ bs) = plain-append (escaped-plain b) (all-escaped-plain bs)

quoted-plain : (text : List ℕ) → Plain (quoted text)
quoted-plain text = plain-append (plain (codes "\"") refl) (plain-append (all-escaped-plain text) (plain (codes "\"") refl))

glyph-plain : (d : ℕ) → (digit_glyph false d == 10) ≡ false
glyph-plain d = go (nat_lt d 10)
  where
    go : (b : Bool) → ((if b then 48 + d else 87 + d) == 10) ≡ false
    go true = above (48 + d) (omega arith)
    go false = above (87 + d) (omega arith)

digits-plain : (k n : ℕ) (after : List ℕ) → Plain after → Plain (digits_onto k 10 false n after)
digits-plain zero n after e = e
digits-plain (suc k) n after e =
    let last = plain-cons (digit_glyph false (n % 10)) (glyph-plain (n % 10)) e in
    go (n / 10 == 0) last (digits-plain k (n / 10) (digit_glyph false (n % 10) ∷ after) last)
  where
    go : (b : Bool) → Plain (digit_glyph false (n % 10) ∷ after) → Plain (digits_onto k 10 false (n / 10) (digit_glyph false (n % 10) ∷ after)) → Plain (if b then digit_glyph false (n % 10) ∷ after else digits_onto k 10 false (n / 10) (digit_glyph false (n % 10) ∷ after))
    go true last all = last
    go false last all = all

pub decimal-plain : (n : ℕ) → Plain (decimal n)
unfolding digits
decimal-plain n = digits-plain 64 n [] (plain [] refl)

place-plain : (files : List (List ℕ)) (at : Pos) → Plain (place_text (quoted_file files) at)
place-plain files at = plain-append (plain-append (plain-append (plain-append (quoted-plain (slice_index_or files at.file [])) (plain (codes ":") refl)) (decimal-plain at.line)) (plain (codes ":") refl)) (decimal-plain at.col)

-- ---- names and words
abbrev pub ArePlain : List (List ℕ) → Type 0
ArePlain names = AllByRecursion Plain names

indexed-plain : (names : List (List ℕ)) (n : ℕ) → ArePlain names → Plain (slice_index_or names n [])
indexed-plain [] n h = plain [] refl
indexed-plain (x ∷ xs) zero h = h.0
indexed-plain (x ∷ xs) (suc n) h = indexed-plain xs n h.1

conn-plain : (c : Conn) → Plain (conn_text c)
conn-plain Not = plain _ refl
conn-plain And = plain _ refl
conn-plain Or = plain _ refl
conn-plain If = plain _ refl
conn-plain Iff = plain _ refl

quant-plain : (q : Quant) → Plain (quant_text q)
quant-plain Forall = plain _ refl
quant-plain Exists = plain _ refl

kind-plain : (k : FaultKind) → Plain (kind_text k)
kind-plain BadUtf8 = plain _ refl
kind-plain BadChar = plain _ refl
kind-plain OpenString = plain _ refl
kind-plain NameTooLong = plain _ refl
kind-plain Unexpected = plain _ refl
kind-plain Unclosed = plain _ refl
kind-plain KindMix = plain _ refl
kind-plain TooDeep = plain _ refl
kind-plain NotBuilt = plain _ refl
kind-plain Redeclared = plain _ refl
kind-plain UnknownSort = plain _ refl
kind-plain Arity = plain _ refl
kind-plain LooseParam = plain _ refl
kind-plain TooWide = plain _ refl
kind-plain SortTooLarge = plain _ refl
kind-plain Unbound = plain _ refl
kind-plain FileTooLong = plain _ refl
kind-plain TooManyLoads = plain _ refl
kind-plain LineTooLong = plain _ refl
kind-plain SortClash = plain _ refl
kind-plain ArgCount = plain _ refl
kind-plain NotBoolean = plain _ refl
kind-plain TooLarge = plain _ refl
kind-plain TooNested = plain _ refl
kind-plain WrongKind = plain _ refl
kind-plain WrongShape = plain _ refl
kind-plain NotInBase = plain _ refl
kind-plain NotApplicable = plain _ refl
kind-plain NotMethod = plain _ refl
kind-plain NotSentence = plain _ refl

method-plain : (n : ℕ) → Plain (method_text n)
method-plain n = go (n == 0)
  where
    go : (b : Bool) → Plain (if b then codes "claim" else codes "mp")
    go true = plain _ refl
    go false = plain _ refl

-- ---- what is printed after sort variables were shown, whichever they are
abbrev IsPlain : Printer → Type 0
IsPlain p = (seen : List SVar) → Plain (p seen).text

abbrev AllPlain : List Printer → Type 0
AllPlain ps = AllByRecursion IsPlain ps

word-plain : {text : List ℕ} → Plain text → IsPlain (word text)
word-plain e seen = e

turn-plain : (ps : List Printer) → AllPlain ps → IsPlain (in_turn ps)
turn-plain [] h seen = plain [] refl
turn-plain (p ∷ ps) h seen = plain-append (h.0 seen) (turn-plain ps h.1 (p seen).seen)

space-plain : IsPlain (word (codes " "))
space-plain = word-plain (plain (codes " ") refl)

opening-plain : IsPlain (word (codes "("))
opening-plain = word-plain (plain (codes "(") refl)

closing-plain : IsPlain (word (codes ")"))
closing-plain = word-plain (plain (codes ")") refl)

spaced-plain : (ps : List Printer) → AllPlain ps → IsPlain (spaced ps)
spaced-plain [] h = turn-plain [] tt
spaced-plain (p ∷ ps) h = turn-plain (word (codes " ") ∷ p ∷ spaced ps ∷ []) (space-plain, (h.0, (spaced-plain ps h.1, tt)))

item-plain : (head : List ℕ) (ps : List Printer) → Plain head → AllPlain ps → IsPlain (item head ps)
item-plain head [] e h = word-plain e
item-plain head (p ∷ ps) e h = turn-plain (word (codes "(") ∷ word head ∷ spaced (p ∷ ps) ∷ word (codes ")") ∷ []) (opening-plain, (word-plain e, (spaced-plain (p ∷ ps) h, (closing-plain, tt))))

numbered-plain : (seen : List SVar) (v : SVar) (o : Option ℕ) → Plain (numbered seen v o).text
numbered-plain seen v (Some n) = plain-append (plain (codes "'S") refl) (decimal-plain (n + 1))
numbered-plain seen v None = plain-append (plain (codes "'S") refl) (decimal-plain (length seen + 1))

svar-plain : (v : SVar) → IsPlain (svar_printed v)
svar-plain v seen = numbered-plain seen v (position (same_svar v) seen)

index-plain : (n : ℕ) → Plain (index_text n)
index-plain n = go (n == 0)
  where
    go : (b : Bool) → Plain (if b then [] else codes "%" ++ decimal n)
    go true = plain [] refl
    go false = plain-append (plain (codes "%") refl) (decimal-plain n)

-- ---- sorts, terms and sentences
module _ (names : List (List ℕ)) (all : ArePlain names) where
  name-plain : (n : Sym) → Plain (text_of names n)
  name-plain n = indexed-plain names n.0 all

  sorts-plain : (ss : List Sort) → AllByRecursion (λ s. IsPlain (sort_printed names s)) ss → AllPlain (map (sort_printed names) ss)
  sorts-plain [] h = tt
  sorts-plain (s ∷ ss) h = (h.0, sorts-plain ss h.1)

  sort-plain : (s : Sort) → IsPlain (sort_printed names s)
  sort-plain = sort_induction (λ s. IsPlain (sort_printed names s))
      (λ v. subst IsPlain (sym (at_var v)) (svar-plain v))
      (λ c parts h. subst IsPlain (sym (at_con c parts)) (item-plain (text_of names c) (map (sort_printed names) parts) (name-plain c) (sorts-plain parts h)))
    where
      at_var : (v : SVar) → sort_printed names (Var v) ≡ svar_printed v
      at_var v = ap (sort_printed names) (sym (rolls-Var v)) ∙ fold-roll-Sort Printer (sort_step names) (one.Var v)

      at_con : (c : Sym) (parts : List Sort) → sort_printed names (Con c parts) ≡ item (text_of names c) (map (sort_printed names) parts)
      at_con c parts = ap (sort_printed names) (sym (rolls-Con c parts)) ∙ fold-roll-Sort Printer (sort_step names) (one.Con c parts)

  var-plain : (v : Variable) → IsPlain (word (var_text names v))
  var-plain v = word-plain (plain-append (plain-append (plain (codes "?") refl) (name-plain v.name)) (index-plain v.index))

  with-sort-plain : (v : Variable) → IsPlain (with_sort names v)
  with-sort-plain v = turn-plain (word (var_text names v) ∷ word (codes ":") ∷ sort_printed names v.sort ∷ []) (var-plain v, (word-plain (plain (codes ":") refl), (sort-plain v.sort, tt)))

  occurrence-plain : (binders : List Variable) (v : Variable) → IsPlain (occurrence names binders v)
  occurrence-plain binders v = go (list_any (same_var v) binders)
    where
      go : (b : Bool) → IsPlain (if b then word (var_text names v) else with_sort names v)
      go true = var-plain v
      go false = with-sort-plain v

  ascribed-plain : (b : Bool) (s : Sort) (p : Printer) → IsPlain p → IsPlain (ascribed names b s p)
  ascribed-plain true s p h = turn-plain (word (codes "(") ∷ p ∷ word (codes " : ") ∷ sort_printed names s ∷ word (codes ")") ∷ []) (opening-plain, (h, (word-plain (plain (codes " : ") refl), (sort-plain s, (closing-plain, tt)))))
  ascribed-plain false s p h = h

module _ (names : List (List ℕ)) (all : ArePlain names) (sig : Signature) where
  mutual
    term-plain : (binders : List Variable) (t : Term) → IsPlain (term_printed names sig binders t)
    term-plain binders (var v) = occurrence-plain names all binders v
    term-plain binders (app f sorts args) = ascribed-plain names all (leaves_unsaid (symbol_of sig f)) (result_sort (symbol_of sig f) sorts) (item (text_of names f) (terms_printed names sig binders args)) (item-plain (text_of names f) (terms_printed names sig binders args) (name-plain names all f) (terms-plain binders args))

    terms-plain : (binders : List Variable) (ts : Terms) → AllPlain (terms_printed names sig binders ts)
    terms-plain binders none = tt
    terms-plain binders (more t ts) = (term-plain binders t, terms-plain binders ts)

  sent-plain : (binders : List Variable) (p : Sent) → IsPlain (sent_printed names sig binders p)
  sent-plain binders (atom t) = term-plain binders t
  sent-plain binders (equal s t) = item-plain (codes "=") (term_printed names sig binders s ∷ term_printed names sig binders t ∷ []) (plain (codes "=") refl) (term-plain binders s, (term-plain binders t, tt))
  sent-plain binders (negated p) = item-plain (conn_text Not) (sent_printed names sig binders p ∷ []) (conn-plain Not) (sent-plain binders p, tt)
  sent-plain binders (joined c p q) = item-plain (conn_text (conn_of c)) (sent_printed names sig binders p ∷ sent_printed names sig binders q ∷ []) (conn-plain (conn_of c)) (sent-plain binders p, (sent-plain binders q, tt))
  sent-plain binders (bound k v p) = item-plain (quant_text k) (with_sort names v ∷ sent_printed names sig (binders ++ v ∷ []) p ∷ []) (quant-plain k) (with-sort-plain names all v, (sent-plain (binders ++ v ∷ []) p, tt))

-- ---- events
module _ (names : List (List ℕ)) (all : ArePlain names) where
  listed-after-plain : (ns : List Sym) → Plain (listed_after names ns)
  listed-after-plain [] = plain [] refl
  listed-after-plain (n ∷ ns) = plain-append (plain-append (plain (codes ", ") refl) (name-plain names all n)) (listed-after-plain ns)

  listed-plain : (ns : List Sym) → Plain (listed names ns)
  listed-plain [] = plain [] refl
  listed-plain (n ∷ ns) = plain-append (name-plain names all n) (listed-after-plain ns)

module _ (names : List (List ℕ)) (sig : Signature) (files : List (List ℕ)) (all : ArePlain names) where
  argument-plain : (a : Argument) → IsPlain (argument_printed names sig a)
  argument-plain (sentence_named p) = sent-plain names all sig [] p
  argument-plain (term_named t) = term-plain names all sig [] t
  argument-plain (sort_named s) = sort-plain names all s
  argument-plain (variable_named n) = word-plain (plain-append (plain (codes "'") refl) (name-plain names all n))
  argument-plain (name_named n) = word-plain (name-plain names all n)
  argument-plain (number_named n) = word-plain (decimal-plain n)

  arguments-plain : (args : List Argument) → AllPlain (map (argument_printed names sig) args)
  arguments-plain [] = tt
  arguments-plain (a ∷ args) = (argument-plain a, arguments-plain args)

  refusal-plain : (why : Refusal) → Plain (refusal_text names sig why)
  refusal-plain why = plain-append (kind-plain why.kind) (spaced-plain (map (argument_printed names sig) why.args) (arguments-plain why.args) [])

  shown-plain : (v : Value) → Plain (shown_text names sig v)
  shown-plain (a_term t s) = plain-append (plain (codes "Term: ") refl) (term-plain names all sig [] t [])
  shown-plain (a_sentence p) = plain-append (plain (codes "Sentence: ") refl) (sent-plain names all sig [] p [])
  shown-plain (a_symbol f) = plain-append (plain (codes "Symbol: ") refl) (name-plain names all f)
  shown-plain (a_connective c) = plain-append (plain (codes "Symbol: ") refl) (conn-plain c)
  shown-plain (a_quantifier q) = plain-append (plain (codes "Symbol: ") refl) (quant-plain q)
  shown-plain a_back = plain (codes "Symbol: <==") refl
  shown-plain (a_method n) = plain-append (plain (codes "Method: ") refl) (method-plain n)

  event-plain : (e : Event) → Plain (text_of_event names sig (quoted_file files) e)
  event-plain (domain_added n) = plain-append (plain (codes "Domain: ") refl) (name-plain names all n)
  event-plain (symbols_added ns) = plain-append (plain (codes "Symbols: ") refl) (listed-plain names all ns)
  event-plain (asserted p) = plain-append (plain (codes "Assertion: ") refl) (sent-plain names all sig [] p [])
  event-plain (proved p) = plain-append (plain (codes "Theorem: ") refl) (sent-plain names all sig [] p [])
  event-plain (shown v) = shown-plain v
  event-plain (refused at why) = plain-append (plain-append (plain-append (plain (codes "Error: ") refl) (place-plain files at)) (plain (codes ": ") refl)) (refusal-plain why)
  event-plain (exhausted at) = plain-append (plain-append (plain (codes "Fuel: ") refl) (place-plain files at)) (plain (codes ": out of fuel") refl)

-- ---- lines
abbrev second_is_h : List ℕ → Bool
second_is_h [] = false
second_is_h (b ∷ []) = false
second_is_h (b ∷ c ∷ bs) = c == 104

-- a line that has another second letter
other : (b c : ℕ) (text : List ℕ) → (c == 104) ≡ false → b ∷ c ∷ text ≡ codes "Theorem: " → ⊥
other b c text f e = let h : (c == 104) ≡ true = ap second_is_h e in absurd (cc)

abbrev Headed : Event → List ℕ → Type 0
Headed e line = (take 9 line ≡ codes "Theorem: ") ↔ (is_theorem e ≡ true)

module _ (names : List (List ℕ)) (sig : Signature) (files : List (List ℕ)) where
  shown-headed : (v : Value) → Headed (shown v) (line_of names sig files (shown v))
  shown-headed (a_term t s) = ((λ e. absurd (other 84 101 _ refl e)), (λ e. absurd (cc)))
  shown-headed (a_sentence p) = ((λ e. absurd (other 83 101 _ refl e)), (λ e. absurd (cc)))
  shown-headed (a_symbol f) = ((λ e. absurd (other 83 121 _ refl e)), (λ e. absurd (cc)))
  shown-headed (a_connective c) = ((λ e. absurd (other 83 121 _ refl e)), (λ e. absurd (cc)))
  shown-headed (a_quantifier q) = ((λ e. absurd (other 83 121 _ refl e)), (λ e. absurd (cc)))
  shown-headed a_back = ((λ e. absurd (other 83 121 _ refl e)), (λ e. absurd (cc)))
  shown-headed (a_method n) = ((λ e. absurd (other 77 101 _ refl e)), (λ e. absurd (cc)))

  line-headed : (e : Event) → Headed e (line_of names sig files e)
  line-headed (domain_added n) = ((λ e. absurd (other 68 111 _ refl e)), (λ e. absurd (cc)))
  line-headed (symbols_added ns) = ((λ e. absurd (other 83 121 _ refl e)), (λ e. absurd (cc)))
  line-headed (asserted p) = ((λ e. absurd (other 65 115 _ refl e)), (λ e. absurd (cc)))
  line-headed (proved p) = ((λ e. refl), (λ e. refl))
  line-headed (shown v) = shown-headed v
  line-headed (refused at why) = ((λ e. absurd (other 69 114 _ refl e)), (λ e. absurd (cc)))
  line-headed (exhausted at) = ((λ e. absurd (other 70 117 _ refl e)), (λ e. absurd (cc)))

pub line_whole : (names : List (List ℕ)) (sig : Signature) (files : List (List ℕ)) → ArePlain names → (e : Event) → IsLine (record { event = e; names = names; signature = sig; files = files })
line_whole names sig files all e = record {
  text = text_of_event names sig (quoted_file files) e;
  ends = refl;
  one_end = (event-plain names sig files all e).free;
  theorem = line-headed names sig files e;
}
