-- What is held and its parts own what a box at the same types owns.
use mir.Syntax.{impl, tnil, dnil}
use mathlib.Core.List.{[]}
use denote.Param.Laws.{Laws}
use denote.RattleType.{RattleType}
use denote.Signature.{Slot, plain}
use Rattle.std_alloc.proofs.BoxSteps.Form.{Bx}
use Rattle.std_heap.specs.contracts.Global as Heap
use Rattle.std_heap.specs.contracts.GlobalAllocator.TheImpl.{ghosts, dict}
use Rattle.std_heap.proofs.Global.TheLaws as heap
use Rattle.ssz_typed.specs.contracts.library.Library as Home
use Rattle.ssz_typed.proofs.library.Library.TheLaws as home
use Rattle.ssz_typed.specs.contracts.checked_bytes.CheckedBytes as Checked
use Rattle.ssz_typed.proofs.checked_bytes.CheckedBytes.TheLaws as checked
use Rattle.ssz_handles.specs.contracts.session.Session as Session
use Rattle.ssz_handles.proofs.session.Session.TheLaws as session
use Rattle.ssz_handles.specs.contracts.parts.Parts as Parts
use Rattle.ssz_handles.specs.contracts.held.Held as Held
use Rattle.ssz_handles.specs.contracts.held_session.HeldSession as HeldSession
use Rattle.ssz_handles.specs.contracts.held_slice.HeldSlice as HeldSlice

-- a box of the type, over C's allocator
abbrev pub boxed : (R : RattleType) → Laws R → Bx
boxed R laws = record {
  row = R;
  laws = laws;
  al = record {
    row = Heap.the_row;
    laws = heap.the_row_laws;
    g = ghosts;
    d = dict;
    drops = impl [] tnil dnil;
  };
}

abbrev pub E : Bx
E = boxed Home.the_row home.the_row_laws

abbrev pub SessionBox : Bx
SessionBox = boxed Session.the_row session.the_row_laws

abbrev pub SliceBox : Bx
SliceBox = boxed Checked.the_row checked.the_row_laws

abbrev pub FromParts : Slot 0
FromParts = plain (λ _. Parts.the_row Home.the_row Heap.the_row ghosts)

abbrev pub FromHeld : Slot 0
FromHeld = plain (λ _. Held.the_row)

abbrev pub FromSessionParts : Slot 0
FromSessionParts = plain (λ _. Parts.the_row Session.the_row Heap.the_row ghosts)

abbrev pub FromHeldSession : Slot 0
FromHeldSession = plain (λ _. HeldSession.the_row)

abbrev pub FromSliceParts : Slot 0
FromSliceParts = plain (λ _. Parts.the_row Checked.the_row Heap.the_row ghosts)

abbrev pub FromHeldSlice : Slot 0
FromHeldSlice = plain (λ _. HeldSlice.the_row)
