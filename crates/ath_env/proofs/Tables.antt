-- A table that is looked through row by row.
use Rattle.std.proofs.Common.{◌≡◌, ℕ, ◌+◌, ◌<◌, Bool, true, false, cond, List, length, get_or, drop, map, Some, sym, ap, ◌∙◌}
use Rattle.std.specs.Map.{lookup}
use Rattle.std.proofs.lemmas.List.{drop_more}

module _ {K X R : Type 0} (row : R → K × X) (test : K → Bool) (rows : List R) (i : ℕ) (d : R) (lt : i < length rows) (before : lookup test (map row rows) ≡ lookup test (map row (drop i rows))) where
  at_row : lookup test (map row rows) ≡ cond (test (row (get_or rows i d)).0) (Some (row (get_or rows i d)).1) (lookup test (map row (drop (i + 1) rows)))
  at_row = before ∙ ap (λ rs. lookup test (map row rs)) (drop_more rows i d lt)

  -- the first row that passes gives the answer
  pub lookup_hit : test (row (get_or rows i d)).0 ≡ true → Some (row (get_or rows i d)).1 ≡ lookup test (map row rows)
  lookup_hit h = sym (at_row ∙ ap (λ b. cond b (Some (row (get_or rows i d)).1) (lookup test (map row (drop (i + 1) rows)))) h)

  -- a row that fails is left behind
  pub lookup_miss : test (row (get_or rows i d)).0 ≡ false → lookup test (map row rows) ≡ lookup test (map row (drop (i + 1) rows))
  lookup_miss h = at_row ∙ ap (λ b. cond b (Some (row (get_or rows i d)).1) (lookup test (map row (drop (i + 1) rows)))) h
