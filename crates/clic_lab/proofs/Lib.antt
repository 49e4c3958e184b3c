mod Plans
mod OrderCauses
