-- Reads of a source, one after another.
use Rattle.std.proofs.Common.{◌≡◌, ℕ, ◌+◌, ◌<◌, ◌≤◌, List, ◌++◌, length, take, Ok, Err, refl, arith}
use Rattle.std.proofs.lemmas.List.{length-append, length-take-le, take-append-le}
use Rattle.ao_base.specs.Outside.{Side, Gave, Reads}
use Rattle.ao_base.specs.ReadAll.{ReadsAll}
use Rattle.ao_base.specs.declared.whole.ReadProblem.TheVariants.{Fault, TooLong, Memory}
use Rattle.ao_base.proofs.Sides.{gave_more, gave_and_none, rose_after}

module _ (before middle now : Side) (all : List ℕ) (most : ℕ) (so_far : Gave all before middle) (within : length all ≤ most) where
  -- the bytes of one more read
  sized : (piece : List ℕ) (n : ℕ) → n ≤ length piece → length (all ++ take n piece) ≡ length all + n
  sized piece n room = let front : length (take n piece) ≡ n = length-take-le n piece room in rw (length-append all (take n piece)) (omega arith)

  pub read_more : (piece rest items : List ℕ) (n : ℕ) → n ≤ length piece → Gave (take n piece) middle now → length all + n ≤ most →
      items ≡ all ++ take n (piece ++ rest) → (length items ≤ most) × Gave items before now
  read_more piece rest items n room gave few items_is =
      let front : take n (piece ++ rest) ≡ take n piece = take-append-le n piece rest room in
      rw (items_is, front) (rw (sized piece n room) few, gave_more all (take n piece) before middle now so_far gave)

  pub read_whole : {E : Type 0} (piece : List ℕ) → Reads {E = E} middle now piece (Ok 0) → 0 < length piece → ReadsAll before now most all (Ok all)
  read_whole piece reads some = record {
    gave = gave_and_none all before middle now so_far reads.gave;
    few = omega arith;
    whole = (refl, reads.ends refl some);
    fault = λ h. absurd (cc);
    long = ((λ h. absurd (cc)), (λ h. absurd (omega arith)));
  }

  pub read_failed : {E : Type 0} (piece : List ℕ) (e : E) → Reads {E = E} middle now piece (Err e) → ReadsAll before now most all (Err Fault)
  read_failed piece e reads = record {
    gave = gave_and_none all before middle now so_far reads.failed.0;
    few = omega arith;
    whole = tt;
    fault = λ _. rose_after (length all) before middle now so_far.counts reads.failed.1;
    long = ((λ h. absurd (cc)), (λ h. absurd (omega arith)));
  }

  pub read_long : (piece : List ℕ) (n : ℕ) → n ≤ length piece → Gave (take n piece) middle now → length all + n ≡ most + 1 →
      ReadsAll before now most (all ++ take n piece) (Err TooLong)
  read_long piece n room gave over =
      let size = sized piece n room in
      record {
        gave = gave_more all (take n piece) before middle now so_far gave;
        few = omega arith;
        whole = tt;
        fault = λ h. absurd (cc);
        long = ((λ _. omega arith), (λ _. refl));
      }

  pub read_lost : (piece : List ℕ) (n : ℕ) → n ≤ length piece → Gave (take n piece) middle now → length all + n ≤ most →
      ReadsAll before now most (all ++ take n piece) (Err Memory)
  read_lost piece n room gave few =
      let size = sized piece n room in
      record {
        gave = gave_more all (take n piece) before middle now so_far gave;
        few = omega arith;
        whole = tt;
        fault = λ h. absurd (cc);
        long = ((λ h. absurd (cc)), (λ h. absurd (omega arith)));
      }
