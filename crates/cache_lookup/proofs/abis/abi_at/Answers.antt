use Rattle.std.proofs.Common.{◌∙◌, ap, rules, sym, w32}
use Rattle.std.proofs.lemmas.Int.{to_z-of_z}
use Rattle.lib_types.specs.Abi.{abi_of_flags}
use Rattle.cache_reader.specs.Cache.{CachedEntry}
use Rattle.cache_lookup.proofs.abis.abi_at.Goals as goal

pub returns : goal.returns
returns c d =
    let flags = ap (λ (e : CachedEntry). e.flags) (c.entry_at-flags.ensures d) in
    let wrapped = to_z-of_z w32 c.entry_at-flags.result.flags (search rules) in
    ap abi_of_flags flags ∙ ap abi_of_flags (sym wrapped) ∙ sym c.of_flags.ensures
