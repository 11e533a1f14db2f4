-- The proof of `specs/Taken.antt`, from the laws of `numbers`.
use Rattle.numbers.proofs.ExactLaws.{taken-exactly}
use Rattle.numbers.proofs.IntegerLaws.{put_is, integer-again}
use Rattle.numbers.proofs.LebLaws.{taken-again}
use Rattle.claims.specs.Taken.{NumbersTaken}

pub numbers_taken : NumbersTaken
numbers_taken =
    record {
      exactly = taken-exactly;
      put = put_is;
      shortest = λ f bytes n i. integer-again i 5;
      again = λ f s n t b e. (taken-again f s n t b e).0;
    }
