-- The class of an address, as the code goes: a part of the definition of `profile`.
--     low_class a         the class of an address whose top four bits are 0
-- Assumes nothing.
use Rattle.std.specs.Prelude.{cond, ◌&&◌, leb}
use Rattle.kinds.specs.declared.number.ByteAddress.{ByteAddress}
use Rattle.kinds.specs.declared.request.AddressClass.{AddressClass}
use Rattle.kinds.specs.declared.request.AddressClass.TheVariants.{Dma, Msi32}

unfoldable pub low_class : ByteAddress → AddressClass
low_class a = cond (leb 0xFFFF0000 a.0 && leb a.0 0xFFFFFFFF) Msi32 Dma
