-- The definitions that one request goes through, under one name, for what is proved by computing.
--     opened              all of them: `unfolding opened`
-- Assumes nothing.
use Rattle.kinds.specs.Words.{map_at}
use Rattle.profile.specs.Tables.{sized, named}
use Rattle.profile.specs.Freeze.{marked, frozen, released}
use Rattle.profile.specs.Fence.{with_fence, stops, shut}
use Rattle.profile.specs.Entry.{class_of, page_size, span, aligned, table_good, bypass_good, pages_good, paged, walkable, walks, in_bypass, unwalked}
use Rattle.profile.specs.Walk.{leads, turn, walk_from, allows, landed, by_pages, translated, reads_by}
use Rattle.profile.specs.Msi.{ranged, number32, number64, msi_formed, presents, arrived, announced, delivered, msi}
use Rattle.profile.specs.Firmware.{ends, prioritized}
use Rattle.profile.specs.Windows.{is_power, covers, segment_of, m32_open, m64_open, m64_pe, m64, m64_from, route, ones_of}
use Rattle.profile.specs.Step.{access_formed, dma_formed, formed, installed_to, last_test, outcome_of, by_entry, served, dma_asked, accessed, ask, unowned, asked, checked, finish, whole, act, act_by}
use Rattle.profile.specs.Owner.{owner_in}

unfoldable pub opened : Unit {0}
unfolding map_at sized named marked frozen released with_fence stops shut class_of page_size span aligned table_good bypass_good pages_good paged walkable walks in_bypass unwalked leads turn walk_from allows landed by_pages translated reads_by ranged number32 number64 msi_formed presents arrived announced delivered msi ends prioritized is_power covers segment_of m32_open m64_open m64_pe m64 m64_from route ones_of access_formed dma_formed formed owner_in installed_to last_test outcome_of by_entry served dma_asked accessed ask unowned asked checked finish whole act act_by
opened = tt
