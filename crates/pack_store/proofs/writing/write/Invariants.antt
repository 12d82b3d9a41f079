-- What the loop keeps is `Writing`: writing the fields from here on gives what writing all of them gives.
use Rattle.pack_store.proofs.writing.WriteLaws.{Writing}
use Rattle.pack_store.proofs.writing.write.Given as goal

abbrev pub invariant-loop-code : goal.invariant-loop-code
invariant-loop-code l = Writing l.area l.codes l.slots l.initial.out l.out l.code-index l.k l.c
