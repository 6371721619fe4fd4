-- The faults of one offset, and of the offsets behind it.
use Rattle.std.proofs.Common.{◌≡◌, Bool, true, false, cond, Option, Some, None, refl}
use Rattle.ssz_bytes.specs.declared.fault.Fault.{Fault}

-- a fault of the offset is that of all, whatever follows
pub first_found : (is_end : Bool) (rest bad : Option Fault) (f : Fault)
    → cond is_end None bad ≡ Some f → cond is_end rest bad ≡ Some f
first_found true rest bad f e = cc
first_found false rest bad f e = e

pub found_in : (past lower : Bool) (range order rest : Option Fault) (f : Fault)
    → cond past range (cond lower order None) ≡ Some f
    → cond past range (cond lower order rest) ≡ Some f
found_in true lower range order rest f e = e
found_in false true range order rest f e = e
found_in false false range order rest f e = cc

-- where it has none, the fault of all is that of what follows
pub none_in : (past lower : Bool) (range order : Fault) (rest : Option Fault)
    → cond past (Some range) (cond lower (Some order) None) ≡ None
    → cond past (Some range) (cond lower (Some order) rest) ≡ rest
none_in true lower range order rest e = cc
none_in false true range order rest e = cc
none_in false false range order rest e = refl
