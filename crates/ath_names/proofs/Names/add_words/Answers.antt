-- One more word is one more turn of the fold.
use Rattle.std.proofs.Common.{◌≡◌, ℕ, ◌+◌, ◌<◌, List, [], ◌∷◌, length, get_or, take, map, fold, sym, ap, ◌∙◌}
use Rattle.std.proofs.lemmas.List.{map-append, take_more}
use Rattle.std.proofs.lemmas.List.Sums.{fold_push}
use Rattle.ath_names.specs.Names.{interned}
use Rattle.ath_names.proofs.Names.add_words.Goals as goal

one_more : {X : Type 0} (text : X → List ℕ) (words : List X) (i : ℕ) (d : X) (first table next : List (List ℕ)) → i < length words
    → table ≡ fold interned first (map text (take i words)) → next ≡ interned table (text (get_or words i d)) → next ≡ fold interned first (map text (take (i + 1) words))
one_more text words i d first table next h before step =
    let x = get_or words i d in
    step ∙ ap (λ t. interned t (text x)) before ∙ sym (fold_push interned first (map text (take i words)) (text x))
    ∙ ap (fold interned first) (sym (map-append text (take i words) (x ∷ []))) ∙ ap (λ ws. fold interned first (map text ws)) (sym (take_more words i d h))

pub loop-word-preserved : goal.loop-word-preserved
loop-word-preserved c =
    one_more (λ word. word.now) c.args.words.now c.loop-word.word-index (record { ref_ptr = (0, 0); now = [] }) c.args.self.now c.loop-word.self c.add.new.self c.loop-word-test.true c.loop-word.invariant c.in_ok-add.ensures.0
