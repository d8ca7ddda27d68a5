-- Writes of known bytes, one after the other.
use Rattle.std.proofs.Common.{◌≡◌, ℕ, ◌+◌, ◌-◌, List, ◌++◌, length, take, drop, Option, refl, subst, take-add, arith}
use Rattle.std.proofs.lemmas.List.{drop-drop, length-drop, take_all}
use Rattle.std.specs.Io.KnownBytes.{Appends, Keeps}
use Rattle.std.proofs.KnownBytes.{Appends-trans, Appends-kept}

-- so many of the bytes were written, and these are left
pub record IsWritten (before after : Option (List ℕ)) (bytes rest : List ℕ) : Type 0 where
  pub count : ℕ
  pub left : rest ≡ drop count bytes
  pub taken : Appends before after (take count bytes)

-- the rest as the code has it, a range to its end
pub more_written : (before between after : Option (List ℕ)) (bytes rest : List ℕ) (count : ℕ)
    → IsWritten before between bytes rest → Appends between after (take count rest)
    → IsWritten before after bytes (take (length rest - count) (drop count rest))
more_written before between after bytes rest count written more =
    let whole : take (length rest - count) (drop count rest) ≡ drop count rest =
    take_all (length rest - count) (drop count rest) (omega (arith, length-drop count rest)) in
    let joined : take written.count bytes ++ take count rest ≡ take (written.count + count) bytes =
    rw (written.left, take-add written.count count bytes) refl in
    record {
      count = written.count + count;
      left = rw (whole, written.left) (drop-drop count written.count bytes);
      taken = subst (Appends before after) joined (Appends-trans before between after _ _ written.taken more);
    }

pub kept_written : (before between after : Option (List ℕ)) (bytes rest : List ℕ)
    → IsWritten before between bytes rest → Keeps between after → IsWritten before after bytes rest
kept_written before between after bytes rest written kept =
    record { count = written.count; left = written.left; taken = Appends-kept before between after _ written.taken kept }
